use Rattle.std.proofs.Common.{◌≡◌, ◌<◌, ◌+◌, ◌^◌, All, length, sym, ap, subst, ◌∙◌, arith}
use Rattle.std.specs.Prelude.{IfOk}
use Rattle.msf_blocks.specs.Blocks.{blocks_of_size}
use Rattle.cow_streams.specs.Layout.{all_parts, layouts, pieces}
use Rattle.cow_streams.specs.Planned.{given_blocks, image_of, new_dir_blocks, written_count}
use Rattle.cow_streams.proofs.Outcome.{are_few, given_as, given_small, if_given, written_is}
use Rattle.cow_streams.proofs.planning.give.Goals as goal

pub overflow_cast-written : goal.overflow_cast-written
overflow_cast-written c =
    let old = image_of c.args.head.now c.args.directory.now c.args.free.now in
    let edits = c.args.edits.now in
    let size = c.args.head.now.block in
    let few = are_few old edits c.requires.whole.head.block c.requires.directory in
    let written : c.written_after-written.result ≡ written_count old edits = c.written_after-written.ensures ∙ ap (λ streams. length (pieces (all_parts (layouts size edits streams)))) c.streams.ensures ∙ sym (written_is old edits) in
    omega (arith, written, few.written)

pub overflow_add-count : goal.overflow_add-count
overflow_add-count c =
    let old = image_of c.args.head.now c.args.directory.now c.args.free.now in
    let edits = c.args.edits.now in
    let size = c.args.head.now.block in
    let few = are_few old edits c.requires.whole.head.block c.requires.directory in
    let written : c.written_after-written.result ≡ written_count old edits = c.written_after-written.ensures ∙ ap (λ streams. length (pieces (all_parts (layouts size edits streams)))) c.streams.ensures ∙ sym (written_is old edits) in
    let blocks : c.blocks_of_size.result ≡ new_dir_blocks old edits = c.blocks_of_size.ensures ∙ ap (blocks_of_size size) c.requires.bytes in
    omega (arith, written, blocks, few.count)

pub overflow_add-count-2 : goal.overflow_add-count-2
overflow_add-count-2 c =
    let old = image_of c.args.head.now c.args.directory.now c.args.free.now in
    let edits = c.args.edits.now in
    let size = c.args.head.now.block in
    let few = are_few old edits c.requires.whole.head.block c.requires.directory in
    let written : c.written_after-written.result ≡ written_count old edits = c.written_after-written.ensures ∙ ap (λ streams. length (pieces (all_parts (layouts size edits streams)))) c.streams.ensures ∙ sym (written_is old edits) in
    let blocks : c.blocks_of_size.result ≡ new_dir_blocks old edits = c.blocks_of_size.ensures ∙ ap (blocks_of_size size) c.requires.bytes in
    omega (arith, written, blocks, few.count)

pub supply-requires-clause-small : goal.supply-requires-clause-small
supply-requires-clause-small c =
    let old = image_of c.args.head.now c.args.directory.now c.args.free.now in
    let edits = c.args.edits.now in
    let size = c.args.head.now.block in
    let few = are_few old edits c.requires.whole.head.block c.requires.directory in
    let written : c.written_after-written.result ≡ written_count old edits = c.written_after-written.ensures ∙ ap (λ streams. length (pieces (all_parts (layouts size edits streams)))) c.streams.ensures ∙ sym (written_is old edits) in
    let blocks : c.blocks_of_size.result ≡ new_dir_blocks old edits = c.blocks_of_size.ensures ∙ ap (blocks_of_size size) c.requires.bytes in
    omega (arith, written, blocks, few.count)

pub returns-clause-given : goal.returns-clause-given
returns-clause-given c =
    let old = image_of c.args.head.now c.args.directory.now c.args.free.now in
    let edits = c.args.edits.now in
    let size = c.args.head.now.block in
    let few = are_few old edits c.requires.whole.head.block c.requires.directory in
    let written : c.written_after-written.result ≡ written_count old edits = c.written_after-written.ensures ∙ ap (λ streams. length (pieces (all_parts (layouts size edits streams)))) c.streams.ensures ∙ sym (written_is old edits) in
    let blocks : c.blocks_of_size.result ≡ new_dir_blocks old edits = c.blocks_of_size.ensures ∙ ap (blocks_of_size size) c.requires.bytes in
    let count : c.written_after-written.result + c.blocks_of_size.result + 1 ≡ written_count old edits + new_dir_blocks old edits + 1 = omega (arith, written, blocks) in
    subst (λ xs. IfOk c.supply.result (λ given. given.items ≡ xs)) (given_as old edits c.args.free.now.blocks (c.written_after-written.result + c.blocks_of_size.result + 1) c.requires.whole.size count) c.supply.ensures.given

pub returns-clause-small : goal.returns-clause-small
returns-clause-small c =
    let old = image_of c.args.head.now c.args.directory.now c.args.free.now in
    let edits = c.args.edits.now in
    let size = c.args.head.now.block in
    let few = are_few old edits c.requires.whole.head.block c.requires.directory in
    let written : c.written_after-written.result ≡ written_count old edits = c.written_after-written.ensures ∙ ap (λ streams. length (pieces (all_parts (layouts size edits streams)))) c.streams.ensures ∙ sym (written_is old edits) in
    if_given c.supply.result (given_blocks old edits) (All (λ b. b < 2 ^ 31)) (returns-clause-given c) (given_small old edits c.requires.whole c.requires.few few)
