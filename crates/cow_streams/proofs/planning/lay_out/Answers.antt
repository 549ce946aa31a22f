use Rattle.std.proofs.Common.{◌≡◌, ◌+◌, ◌-◌, ◌++◌, [], ◌∷◌, drop, get_or, length, take, lit<, sym, ap, subst, ◌∙◌, arith}
use Rattle.std.specs.List.{flat_map}
use Rattle.msf_blocks.specs.Blocks.{blocks_of_size}
use Rattle.msf_blocks.specs.Superblock.{IsSuper}
use Rattle.stream_directory.specs.Directory.{directory_text, word}
use Rattle.msf_image.specs.Packed.{block_of}
use Rattle.cow_streams.specs.Layout.{all_parts, laid, layouts, pieces}
use Rattle.cow_streams.specs.Planned.{blocks_of, given_blocks, image_of, new_blocks, new_dir_blocks, new_dir_bytes, new_directory, new_listed, new_map_addr, planned, writes_to, written_count}
use Rattle.cow_streams.specs.Supply.{blocks_with}
use Rattle.cow_streams.proofs.LayoutLoops.{writes_count}
use Rattle.cow_streams.proofs.Numbering.{length-laid}
use Rattle.cow_streams.proofs.Outcome.{addr_is, are_few, blocks_are, both_ok, directory_is, head_from, inside_from, listed_is, other_as, planned_from, written_is}
use Rattle.cow_streams.proofs.Wholeness.{is_super, length-layouts, length_directory, length_given, length_listed}
use Rattle.cow_streams.proofs.planning.lay_out.Goals as goal

pub overflow_sub-written : goal.overflow_sub-written
overflow_sub-written c =
    let old = image_of c.args.head.now c.args.directory.now c.args.free.now in
    let edits = c.args.edits.now in
    let size = c.args.head.now.block in
    let given = c.args.given.now in
    let d : c.blocks_of_size-count.result ≡ new_dir_blocks old edits = c.blocks_of_size-count.ensures ∙ ap (blocks_of_size size) c.requires.bytes in
    let n : length given ≡ written_count old edits + new_dir_blocks old edits + 1 = ap length c.requires.given ∙ length_given old edits in
    omega (arith, d, n)

pub overflow_sub-written-2 : goal.overflow_sub-written-2
overflow_sub-written-2 c =
    let old = image_of c.args.head.now c.args.directory.now c.args.free.now in
    let edits = c.args.edits.now in
    let size = c.args.head.now.block in
    let given = c.args.given.now in
    let d : c.blocks_of_size-count.result ≡ new_dir_blocks old edits = c.blocks_of_size-count.ensures ∙ ap (blocks_of_size size) c.requires.bytes in
    let n : length given ≡ written_count old edits + new_dir_blocks old edits + 1 = ap length c.requires.given ∙ length_given old edits in
    omega (arith, d, n)

pub lay_streams-requires-clause-enough : goal.lay_streams-requires-clause-enough
lay_streams-requires-clause-enough c =
    let old = image_of c.args.head.now c.args.directory.now c.args.free.now in
    let edits = c.args.edits.now in
    let size = c.args.head.now.block in
    let given = c.args.given.now in
    let d : c.blocks_of_size-count.result ≡ new_dir_blocks old edits = c.blocks_of_size-count.ensures ∙ ap (blocks_of_size size) c.requires.bytes in
    let n : length given ≡ written_count old edits + new_dir_blocks old edits + 1 = ap length c.requires.given ∙ length_given old edits in
    let none : length c.in_ok-writes.writes.items ≡ 0 = ap length c.in_ok-writes.ensures.items in
    let w : length (pieces (all_parts (layouts size edits c.streams.result.now))) ≡ written_count old edits = ap (λ streams. length (pieces (all_parts (layouts size edits streams)))) c.streams.ensures ∙ sym (written_is old edits) in
    omega (arith, none, w, n)

pub new-new-requires : goal.new-new-requires
new-new-requires c =
    let size = c.args.head.now.block in
    let ls = layouts size c.args.edits.now c.streams.result.now in
    let few = c.requires.whole.directory.few in
    omega (arith, ap length c.in_ok-streams.ensures.streams, length-laid ls (drop (length c.in_ok-writes.writes.items) c.args.given.now), length-layouts size c.args.edits.now c.streams.result.now, ap length c.streams.ensures, few)

pub part_of-listed-requires : goal.part_of-listed-requires
part_of-listed-requires c =
    let old = image_of c.args.head.now c.args.directory.now c.args.free.now in
    let edits = c.args.edits.now in
    let size = c.args.head.now.block in
    let given = c.args.given.now in
    let d : c.blocks_of_size-count.result ≡ new_dir_blocks old edits = c.blocks_of_size-count.ensures ∙ ap (blocks_of_size size) c.requires.bytes in
    let n : length given ≡ written_count old edits + new_dir_blocks old edits + 1 = ap length c.requires.given ∙ length_given old edits in
    omega (arith, d, n)

pub put_directory-requires-clause-short : goal.put_directory-requires-clause-short
put_directory-requires-clause-short c =
    let old = image_of c.args.head.now c.args.directory.now c.args.free.now in
    let edits = c.args.edits.now in
    let size = c.args.head.now.block in
    let given = c.args.given.now in
    let d : c.blocks_of_size-count.result ≡ new_dir_blocks old edits = c.blocks_of_size-count.ensures ∙ ap (blocks_of_size size) c.requires.bytes in
    let n : length given ≡ written_count old edits + new_dir_blocks old edits + 1 = ap length c.requires.given ∙ length_given old edits in
    let made : c.new-new.result ≡ new_directory old edits =
    c.new-new.ensures ∙ c.in_ok-streams.ensures.streams ∙ ap (λ streams. laid (layouts size edits streams) (drop (length c.in_ok-writes.writes.items) given)) c.streams.ensures
    ∙ ap (λ k. laid (layouts size edits c.args.directory.now) (drop k given)) (ap length c.in_ok-writes.ensures.items) ∙ ap (laid (layouts size edits c.args.directory.now)) c.requires.given ∙ directory_is old edits in
    let text : length (directory_text c.new-new.result) ≡ new_dir_bytes old edits = ap (λ x. length (directory_text x)) made ∙ length_directory old edits in
    let few = are_few old edits c.requires.whole.head.block c.requires.directory in
    omega (arith, text, few.bytes)

pub put_directory-requires-clause-some : goal.put_directory-requires-clause-some
put_directory-requires-clause-some c =
    let old = image_of c.args.head.now c.args.directory.now c.args.free.now in
    let edits = c.args.edits.now in
    let size = c.args.head.now.block in
    let given = c.args.given.now in
    let d : c.blocks_of_size-count.result ≡ new_dir_blocks old edits = c.blocks_of_size-count.ensures ∙ ap (blocks_of_size size) c.requires.bytes in
    let n : length given ≡ written_count old edits + new_dir_blocks old edits + 1 = ap length c.requires.given ∙ length_given old edits in
    let count = c.blocks_of_size-count.result in
    let from : length given - count - 1 ≡ written_count old edits = omega (arith, d, n) in
    let listed : c.part_of-listed.result.now ≡ new_listed old edits =
    c.part_of-listed.ensures ∙ ap (λ m. take count (drop m given)) from ∙ ap (λ m. take m (drop (written_count old edits) given)) d ∙ ap (λ xs. take (new_dir_blocks old edits) (drop (written_count old edits) xs)) c.requires.given ∙ listed_is old edits in
    let few = are_few old edits c.requires.whole.head.block c.requires.directory in
    omega (arith, ap length listed, length_listed old edits, few.some)

pub put_directory-requires-clause-one : goal.put_directory-requires-clause-one
put_directory-requires-clause-one c =
    let old = image_of c.args.head.now c.args.directory.now c.args.free.now in
    let edits = c.args.edits.now in
    let size = c.args.head.now.block in
    let given = c.args.given.now in
    let d : c.blocks_of_size-count.result ≡ new_dir_blocks old edits = c.blocks_of_size-count.ensures ∙ ap (blocks_of_size size) c.requires.bytes in
    let n : length given ≡ written_count old edits + new_dir_blocks old edits + 1 = ap length c.requires.given ∙ length_given old edits in
    let count = c.blocks_of_size-count.result in
    let from : length given - count - 1 ≡ written_count old edits = omega (arith, d, n) in
    let listed : c.part_of-listed.result.now ≡ new_listed old edits =
    c.part_of-listed.ensures ∙ ap (λ m. take count (drop m given)) from ∙ ap (λ m. take m (drop (written_count old edits) given)) d ∙ ap (λ xs. take (new_dir_blocks old edits) (drop (written_count old edits) xs)) c.requires.given ∙ listed_is old edits in
    let few = are_few old edits c.requires.whole.head.block c.requires.directory in
    omega (arith, ap length listed, length_listed old edits, few.short)

pub put_directory-requires-clause-enough : goal.put_directory-requires-clause-enough
put_directory-requires-clause-enough c =
    let old = image_of c.args.head.now c.args.directory.now c.args.free.now in
    let edits = c.args.edits.now in
    let size = c.args.head.now.block in
    let given = c.args.given.now in
    let d : c.blocks_of_size-count.result ≡ new_dir_blocks old edits = c.blocks_of_size-count.ensures ∙ ap (blocks_of_size size) c.requires.bytes in
    let n : length given ≡ written_count old edits + new_dir_blocks old edits + 1 = ap length c.requires.given ∙ length_given old edits in
    let none : length c.in_ok-writes.writes.items ≡ 0 = ap length c.in_ok-writes.ensures.items in
    let w : length (pieces (all_parts (layouts size edits c.streams.result.now))) ≡ written_count old edits = ap (λ streams. length (pieces (all_parts (layouts size edits streams)))) c.streams.ensures ∙ sym (written_is old edits) in
    let made : c.new-new.result ≡ new_directory old edits =
    c.new-new.ensures ∙ c.in_ok-streams.ensures.streams ∙ ap (λ streams. laid (layouts size edits streams) (drop (length c.in_ok-writes.writes.items) given)) c.streams.ensures
    ∙ ap (λ k. laid (layouts size edits c.args.directory.now) (drop k given)) (ap length c.in_ok-writes.ensures.items) ∙ ap (laid (layouts size edits c.args.directory.now)) c.requires.given ∙ directory_is old edits in
    let text : length (directory_text c.new-new.result) ≡ new_dir_bytes old edits = ap (λ x. length (directory_text x)) made ∙ length_directory old edits in
    let count = writes_count (all_parts (layouts size edits c.streams.result.now)) (drop (length c.in_ok-writes.writes.items) given) c.in_ok-writes.writes.items c.lay_streams.new.writes.items c.in_ok-streams.ensures.writes in
    omega (arith, none, w, n, count, ap (blocks_of_size size) text)

pub number_at-requires : goal.number_at-requires
number_at-requires c =
    let old = image_of c.args.head.now c.args.directory.now c.args.free.now in
    let edits = c.args.edits.now in
    let size = c.args.head.now.block in
    let given = c.args.given.now in
    let d : c.blocks_of_size-count.result ≡ new_dir_blocks old edits = c.blocks_of_size-count.ensures ∙ ap (blocks_of_size size) c.requires.bytes in
    let n : length given ≡ written_count old edits + new_dir_blocks old edits + 1 = ap length c.requires.given ∙ length_given old edits in
    omega (arith, d, n)

pub finish-requires-clause-passes : goal.finish-requires-clause-passes
finish-requires-clause-passes c =
    let old = image_of c.args.head.now c.args.directory.now c.args.free.now in
    let edits = c.args.edits.now in
    let size = c.args.head.now.block in
    let given = c.args.given.now in
    let d : c.blocks_of_size-count.result ≡ new_dir_blocks old edits = c.blocks_of_size-count.ensures ∙ ap (blocks_of_size size) c.requires.bytes in
    let n : length given ≡ written_count old edits + new_dir_blocks old edits + 1 = ap length c.requires.given ∙ length_given old edits in
    let count = c.blocks_of_size-count.result in
    let place : length given - count - 1 + count ≡ written_count old edits + new_dir_blocks old edits = omega (arith, d, n) in
    let addr : c.number_at.result ≡ new_map_addr old edits = c.number_at.ensures ∙ ap (λ m. get_or given m 0) place ∙ ap (λ xs. get_or xs (written_count old edits + new_dir_blocks old edits) 0) c.requires.given ∙ addr_is old edits in
    let blocks : c.blocks_with.result ≡ new_blocks old edits = c.blocks_with.ensures ∙ ap (λ b. blocks_with b given) (c.blocks-2.ensures ∙ c.requires.whole.size) ∙ ap (blocks_with c.args.head.now.blocks) c.requires.given ∙ blocks_are old edits in
    let map = other_as c.args.head.now.map c.other.result c.requires.whole.head.map c.other.ensures.first c.other.ensures.second in
    let head = head_from old edits c.other.result c.blocks_with.result c.args.dir_bytes c.number_at.result map blocks c.requires.bytes addr in
    subst IsSuper (sym head) (is_super old edits 1048576 c.requires.whole (lit< tt) c.requires.directory c.requires.few)

pub finish-requires-clause-inside : goal.finish-requires-clause-inside
finish-requires-clause-inside c =
    let old = image_of c.args.head.now c.args.directory.now c.args.free.now in
    let edits = c.args.edits.now in
    let size = c.args.head.now.block in
    let given = c.args.given.now in
    let d : c.blocks_of_size-count.result ≡ new_dir_blocks old edits = c.blocks_of_size-count.ensures ∙ ap (blocks_of_size size) c.requires.bytes in
    let n : length given ≡ written_count old edits + new_dir_blocks old edits + 1 = ap length c.requires.given ∙ length_given old edits in
    let made : c.new-new.result ≡ new_directory old edits =
    c.new-new.ensures ∙ c.in_ok-streams.ensures.streams ∙ ap (λ streams. laid (layouts size edits streams) (drop (length c.in_ok-writes.writes.items) given)) c.streams.ensures
    ∙ ap (λ k. laid (layouts size edits c.args.directory.now) (drop k given)) (ap length c.in_ok-writes.ensures.items) ∙ ap (laid (layouts size edits c.args.directory.now)) c.requires.given ∙ directory_is old edits in
    let text : length (directory_text c.new-new.result) ≡ new_dir_bytes old edits = ap (λ x. length (directory_text x)) made ∙ length_directory old edits in
    let count = c.blocks_of_size-count.result in
    let from : length given - count - 1 ≡ written_count old edits = omega (arith, d, n) in
    let listed : c.part_of-listed.result.now ≡ new_listed old edits =
    c.part_of-listed.ensures ∙ ap (λ m. take count (drop m given)) from ∙ ap (λ m. take m (drop (written_count old edits) given)) d ∙ ap (λ xs. take (new_dir_blocks old edits) (drop (written_count old edits) xs)) c.requires.given ∙ listed_is old edits in
    let place : length given - count - 1 + count ≡ written_count old edits + new_dir_blocks old edits = omega (arith, d, n) in
    let addr : c.number_at.result ≡ new_map_addr old edits = c.number_at.ensures ∙ ap (λ m. get_or given m 0) place ∙ ap (λ xs. get_or xs (written_count old edits + new_dir_blocks old edits) 0) c.requires.given ∙ addr_is old edits in
    let blocks : c.blocks_with.result ≡ new_blocks old edits = c.blocks_with.ensures ∙ ap (λ b. blocks_with b given) (c.blocks-2.ensures ∙ c.requires.whole.size) ∙ ap (blocks_with c.args.head.now.blocks) c.requires.given ∙ blocks_are old edits in
    let map = other_as c.args.head.now.map c.other.result c.requires.whole.head.map c.other.ensures.first c.other.ensures.second in
    let head = head_from old edits c.other.result c.blocks_with.result c.args.dir_bytes c.number_at.result map blocks c.requires.bytes addr in
    inside_from old edits _ c.part_of-listed.result.now c.new-new.result c.requires.whole c.requires.edits head listed made

pub returns : goal.returns
returns c =
    let old = image_of c.args.head.now c.args.directory.now c.args.free.now in
    let edits = c.args.edits.now in
    let size = c.args.head.now.block in
    let given = c.args.given.now in
    let d : c.blocks_of_size-count.result ≡ new_dir_blocks old edits = c.blocks_of_size-count.ensures ∙ ap (blocks_of_size size) c.requires.bytes in
    let n : length given ≡ written_count old edits + new_dir_blocks old edits + 1 = ap length c.requires.given ∙ length_given old edits in
    let made : c.new-new.result ≡ new_directory old edits =
    c.new-new.ensures ∙ c.in_ok-streams.ensures.streams ∙ ap (λ streams. laid (layouts size edits streams) (drop (length c.in_ok-writes.writes.items) given)) c.streams.ensures
    ∙ ap (λ k. laid (layouts size edits c.args.directory.now) (drop k given)) (ap length c.in_ok-writes.ensures.items) ∙ ap (laid (layouts size edits c.args.directory.now)) c.requires.given ∙ directory_is old edits in
    let text : length (directory_text c.new-new.result) ≡ new_dir_bytes old edits = ap (λ x. length (directory_text x)) made ∙ length_directory old edits in
    let count = c.blocks_of_size-count.result in
    let from : length given - count - 1 ≡ written_count old edits = omega (arith, d, n) in
    let listed : c.part_of-listed.result.now ≡ new_listed old edits =
    c.part_of-listed.ensures ∙ ap (λ m. take count (drop m given)) from ∙ ap (λ m. take m (drop (written_count old edits) given)) d ∙ ap (λ xs. take (new_dir_blocks old edits) (drop (written_count old edits) xs)) c.requires.given ∙ listed_is old edits in
    let place : length given - count - 1 + count ≡ written_count old edits + new_dir_blocks old edits = omega (arith, d, n) in
    let addr : c.number_at.result ≡ new_map_addr old edits = c.number_at.ensures ∙ ap (λ m. get_or given m 0) place ∙ ap (λ xs. get_or xs (written_count old edits + new_dir_blocks old edits) 0) c.requires.given ∙ addr_is old edits in
    let blocks : c.blocks_with.result ≡ new_blocks old edits = c.blocks_with.ensures ∙ ap (λ b. blocks_with b given) (c.blocks-2.ensures ∙ c.requires.whole.size) ∙ ap (blocks_with c.args.head.now.blocks) c.requires.given ∙ blocks_are old edits in
    let map = other_as c.args.head.now.map c.other.result c.requires.whole.head.map c.other.ensures.first c.other.ensures.second in
    let head = head_from old edits c.other.result c.blocks_with.result c.args.dir_bytes c.number_at.result map blocks c.requires.bytes addr in
    let streams : c.lay_streams.new.writes.items ≡ writes_to (pieces (all_parts (layouts size edits c.args.directory.now))) (given_blocks old edits) =
    c.in_ok-streams.ensures.writes ∙ ap (λ ws. ws ++ writes_to (pieces (all_parts (layouts size edits c.streams.result.now))) (drop (length ws) given)) c.in_ok-writes.ensures.items
    ∙ ap (λ ss. writes_to (pieces (all_parts (layouts size edits ss))) given) c.streams.ensures ∙ ap (writes_to (pieces (all_parts (layouts size edits c.args.directory.now)))) c.requires.given in
    let behind = c.in_ok-put_directory.ensures
    ∙ ap (λ xs. c.lay_streams.new.writes.items ++ writes_to (blocks_of size (directory_text c.new-new.result) ++ block_of size (flat_map word c.part_of-listed.result.now) 0 ∷ []) (drop (length c.lay_streams.new.writes.items) xs)) c.requires.given in
    both_ok c.finish.result _ _ (planned old edits) c.finish.ensures.image c.finish.ensures.writes
    (λ p image writes. planned_from old edits _ c.new-new.result c.part_of-listed.result.now c.lay_streams.new.writes.items c.put_directory.new.writes.items p head made listed streams behind image writes)
