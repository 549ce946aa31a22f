use Rattle.std.proofs.Common.{◌≡◌, ◌+◌, ◌++◌, Some, None, get_or, take, drop, eqb, ap, sym, ◌∙◌, arith}
use Rattle.std.proofs.lemmas.Grind.{common_steps}
use Rattle.std.proofs.lemmas.List.{with_items_is}
use Rattle.std.specs.List.{list_any}
use Rattle.std.specs.Option.{option_or}
use Rattle.std.specs.Vec.{with_items}
use Rattle.msf_blocks.specs.Judging.{unless}
use Rattle.msf_blocks.specs.Bits.{has_bit}
use Rattle.stream_directory.specs.Reading.{block_damage, first_bad}
use Rattle.stream_directory.proofs.Marks.{None-since, first_bad-end, first_bad-more, marked_more, so_far}
use Rattle.stream_directory.proofs.judging.judge.Goals as goal

pub returns-in-Some : goal.returns-in-Some
returns-in-Some c =
    let s = c.args.s.now in
    let earlier = c.args.earlier.now in
    let blocks = c.args.blocks.now in
    let i = c.loop-b.b-index in
    let b = get_or blocks i 0 in
    let marked : has_bit c.deref.result.now b ≡ list_any (λ x. eqb x b) (earlier ++ take i blocks) = ap (λ bits. has_bit bits b) c.deref.ensures.value ∙ c.loop-b.invariant.1 b in
    let step = first_bad-more s earlier blocks i (has_bit c.deref.result.now b) (omega arith) marked in
    let damage : block_damage s (has_bit c.deref.result.now b) b ≡ Some c.in-Some.damage = sym c.in-Some.ensures in
    ap (λ found. unless found tt) (sym c.loop-b.invariant.2 ∙ step ∙ ap (λ f. option_or f (first_bad s (earlier ++ take (i + 1) blocks) (drop (i + 1) blocks))) damage)

pub loop-b-preserved : goal.loop-b-preserved
loop-b-preserved c =
    let s = c.args.s.now in
    let earlier = c.args.earlier.now in
    let blocks = c.args.blocks.now in
    let i = c.loop-b.b-index in
    let b = get_or blocks i 0 in
    let new = c.set_bit.new.bits in
    let items : (with_items c.loop-b.used new).items ≡ new = grind (arith, common_steps, with_items_is) in
    let marked : has_bit c.deref.result.now b ≡ list_any (λ x. eqb x b) (earlier ++ take i blocks) = ap (λ bits. has_bit bits b) c.deref.ensures.value ∙ c.loop-b.invariant.1 b in
    let step = first_bad-more s earlier blocks i (has_bit c.deref.result.now b) (omega arith) marked in
    let none : block_damage s (has_bit c.deref.result.now b) b ≡ None = sym c.block_damage.ensures ∙ None-since c.block_damage.result c.in_default.not-Some in
    let more = marked_more c.loop-b.used.items new (earlier ++ take i blocks) b c.loop-b.invariant.1 c.set_bit.ensures.set (λ k ne. c.set_bit.ensures.others k ne ∙ ap (λ bits. has_bit bits k) c.deref_mut.ensures.value) in (
      c.loop-b.invariant.0,
      λ k. ap (λ xs. has_bit xs k) items ∙ more k ∙ ap (λ xs. list_any (λ x. eqb x k) xs) (sym (so_far earlier blocks i (omega arith))),
      sym (ap (λ f. option_or f (first_bad s (earlier ++ take (i + 1) blocks) (drop (i + 1) blocks))) none) ∙ sym step ∙ c.loop-b.invariant.2,
    )

pub returns : goal.returns
returns c =
    ap (λ found. unless found tt) (sym c.loop-b.invariant.2 ∙ first_bad-end c.args.s.now (c.args.earlier.now ++ take c.loop-b.b-index c.args.blocks.now) c.args.blocks.now c.loop-b.b-index (omega arith))
