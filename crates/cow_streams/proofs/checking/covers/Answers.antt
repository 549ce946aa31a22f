use Rattle.std.proofs.Common.{◌≡◌, ◌*◌, ◌/◌, true, sym, ap, subst, ◌∙◌, inl, inr, arith}
use Rattle.std.specs.List.{list_any}
use Rattle.std.proofs.lemmas.Bool.{cases_lt}
use Rattle.cow_streams.specs.Edits.{has_byte, len_after}
use Rattle.cow_streams.proofs.Covering.{covered_by}
use Rattle.cow_streams.proofs.checking.covers.Goals as goal

pub returns-then-len-size : goal.returns-then-len-size
returns-then-len-size c = λ t k lt none.
    let len = c.len_after-len.ensures ∙ ap (len_after c.args.edits.now c.args.i) c.size-size.ensures.size in
    inl (omega (arith, c.if-len-size.true, len, c.size-size.ensures.size))

pub loop-k-init : goal.loop-k-init
loop-k-init c = λ j from to. absurd (omega (arith, from, to))

pub loop-k-preserved : goal.loop-k-preserved
loop-k-preserved c = λ j from to.
    let size = c.args.block_size in
    let here = sym (c.is_edited.ensures ∙ ap (λ at. list_any (has_byte c.args.i at) c.args.edits.now) c.block_offset.ensures) ∙ c.if-not-is_edited.false in
    elim (cases_lt j c.loop-k.k) [
      | inl lt ↦ c.loop-k.invariant j from lt
      | inr le ↦ let same : c.loop-k.k ≡ j = omega (arith, le, to) in subst (λ m. list_any (has_byte c.args.i (m * size)) c.args.edits.now ≡ true) same here
    ]

pub returns : goal.returns
returns c = λ t.
    let len = c.len_after-len.ensures ∙ ap (len_after c.args.edits.now c.args.i) c.size-size.ensures.size in
    covered_by c.args.block_size c.args.edits.now c.args.i c.args.stream.now c.len_after-len.result (c.size-size.result / c.args.block_size) c.loop-k.k c.requires len (ap (λ n. n / c.args.block_size) c.size-size.ensures.size)
    (omega (arith, c.blocks_of_size-k-end.ensures, c.loop-k-test.false)) c.loop-k.invariant
