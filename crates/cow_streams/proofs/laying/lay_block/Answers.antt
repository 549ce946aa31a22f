use Rattle.std.proofs.Common.{◌≤◌, sym, subst}
use Rattle.cow_streams.specs.Edits.{has_byte}
use Rattle.cow_streams.proofs.Editing.{found_begins, found_has}
use Rattle.cow_streams.proofs.Lists.{each_of}
use Rattle.cow_streams.proofs.laying.lay_block.Goals as goal

pub piece_of-requires-clause-behind : goal.piece_of-requires-clause-behind
piece_of-requires-clause-behind c =
    let at = c.block_offset.result in
    let found = found_has (has_byte c.args.i at) (λ e. Unit {0}) c.args.edits.now c.in-Some.e.now (sym c.in-Some.ensures) (each_of (λ e. Unit {0}) c.args.edits.now (λ e. tt)) in
    let begins = found_begins c.args.i at c.in-Some.e.now found.0 in
    subst (λ m. c.in-Some.e.now.at ≤ m) c.block_offset.ensures begins.1
