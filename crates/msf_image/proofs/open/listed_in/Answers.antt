use Rattle.std.proofs.Common.{rules, length, ap, ◌∙◌, arith}
use Rattle.std.proofs.lemmas.List.{length-take-le}
use Rattle.msf_image.proofs.Listed.{listed_count, listed_fit}
use Rattle.msf_image.proofs.open.listed_in.Goals as goal

pub slice_bounds-extend_from_slice-end : goal.slice_bounds-extend_from_slice-end
slice_bounds-extend_from_slice-end c =
    let fit = listed_fit c.args.head.now c.args.block_map.now c.requires.passes c.requires.whole in
    let same = ap length (c.deref.ensures.value ∙ c.in_ok-words.ensures) in
    omega (arith, length-take-le c.blocks_of_size-count.result c.deref.result.now (omega (arith, same, fit, c.blocks_of_size-count.ensures)))

pub returns-clause-count : goal.returns-clause-count
returns-clause-count c = listed_count c.args.head.now c.args.block_map.now _ c.requires.passes c.requires.whole (search rules)
