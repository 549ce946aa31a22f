use Rattle.std.proofs.Common.{◌≡◌, None, sym, subst, inl, inr, arith}
use Rattle.std.proofs.lemmas.Bool.{cases_lt}
use Rattle.std.proofs.lemmas.List.{get_or_past, get_or_read}
use Rattle.stream_directory.specs.Directory.{stream_at}
use Rattle.cow_streams.specs.Edits.{IsCovered}
use Rattle.cow_streams.proofs.checking.are_covered.Goals as goal

pub loop-i-init : goal.loop-i-init
loop-i-init c = λ j from to. absurd (omega (arith, from, to))

pub loop-i-preserved : goal.loop-i-preserved
loop-i-preserved c = λ j from to.
    let size = c.args.block_size in
    let edits = c.args.edits.now in
    let i = c.loop-i.i in
    let here = subst (IsCovered size edits i) (get_or_read c.args.streams.now i c.index-streams-i.result c.loop-i-test.true c.index-streams-i.is None) (c.is_covered.ensures c.if-not-is_covered.false) in
    elim (cases_lt j i) [
      | inl lt ↦ c.loop-i.invariant j from lt
      | inr le ↦ let same : i ≡ j = omega (arith, le, to) in subst (λ m. IsCovered size edits m (stream_at c.args.streams.now m)) same here
    ]

pub returns : goal.returns
returns c = λ t j from.
    elim (cases_lt j c.loop-i.i) [
      | inl lt ↦ c.loop-i.invariant j from lt
      | inr le ↦ subst (IsCovered c.args.block_size c.args.edits.now j) (sym (get_or_past c.args.streams.now j None (omega (arith, le, c.loop-i-test.false)))) tt
    ]
