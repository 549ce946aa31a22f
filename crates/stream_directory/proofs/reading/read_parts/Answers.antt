use Rattle.std.proofs.Common.{◌-◌, length, take, drop, ap, ◌∙◌, arith}
use Rattle.std.proofs.lemmas.List.{length-drop, length-take}
use Rattle.stream_directory.proofs.Counts.{length-directory_of, skipped_and_others}
use Rattle.stream_directory.proofs.reading.read_parts.Goals as goal

pub slice_bounds-kept-count : goal.slice_bounds-kept-count
slice_bounds-kept-count c = omega (arith, c.skipped_count.ensures, c.in_ok-sizes.ensures.count, skipped_and_others c.args.s.now.block c.in_ok-sizes.sizes.now)

pub directory_of-requires-clause-enough : goal.directory_of-requires-clause-enough
directory_of-requires-clause-enough c =
    let numbers = c.in_ok-sizes.numbers.now in
    let skipped = c.skipped_count.result in
    omega (arith, c.skipped_count.ensures, c.in_ok-sizes.ensures.count, skipped_and_others c.args.s.now.block c.in_ok-sizes.sizes.now, length-take (length numbers - skipped) (drop skipped numbers), length-drop skipped numbers)

pub new-requires : goal.new-requires
new-requires c =
    let numbers = c.in_ok-sizes.numbers.now in
    let skipped = c.skipped_count.result in
    let len = ap length c.in_ok-streams.ensures ∙ length-directory_of c.args.s.now.block c.in_ok-sizes.sizes.now (take (length numbers - skipped) (drop skipped numbers)) in
    omega (arith, len, c.in_ok-sizes.ensures.few)
