use Rattle.std.proofs.Common.{◌≡◌, ◌*◌, ◌++◌, [], ◌∷◌, drop, length, ap, subst, ◌∙◌, arith}
use Rattle.std.specs.Prelude.{OnOk}
use Rattle.std.specs.List.{flat_map}
use Rattle.std.proofs.lemmas.List.FromFn.{length-map-range_with_len}
use Rattle.msf_blocks.specs.Blocks.{blocks_of_size}
use Rattle.msf_blocks.proofs.Sizes.{IsBlockSize-le}
use Rattle.stream_directory.specs.Directory.{directory_text, word}
use Rattle.stream_directory.proofs.Streams.{length-words}
use Rattle.msf_image.specs.Packed.{block_of}
use Rattle.cow_streams.specs.Planned.{blocks_of, writes_to}
use Rattle.cow_streams.proofs.LayoutLoops.{one_block, one_cut, text_count, writes_two}
use Rattle.cow_streams.proofs.writing.put_directory.Goals as goal

pub put_blocks-requires-2-clause-short : goal.put_blocks-requires-2-clause-short
put_blocks-requires-2-clause-short c =
    let is = c.deref-2.ensures.value ∙ c.in_ok-put_words.ensures ∙ ap (λ xs. xs ++ flat_map word c.args.listed.now) c.in_ok-numbers.ensures.items in
    let most = IsBlockSize-le c.args.block_size c.requires.size in
    omega (arith, ap length is, length-words c.args.listed.now, c.requires.one, most)

pub put_blocks-requires-2-clause-enough : goal.put_blocks-requires-2-clause-enough
put_blocks-requires-2-clause-enough c =
    let size = c.args.block_size in
    let is = c.deref-2.ensures.value ∙ c.in_ok-put_words.ensures ∙ ap (λ xs. xs ++ flat_map word c.args.listed.now) c.in_ok-numbers.ensures.items in
    let len : length c.deref-2.result.now ≡ 4 * length c.args.listed.now = ap length is ∙ length-words c.args.listed.now in
    let one : blocks_of_size size (length c.deref-2.result.now) ≡ 1 = ap (blocks_of_size size) len ∙ one_block size (4 * length c.args.listed.now) c.requires.size (omega (arith, c.requires.some)) c.requires.one in
    let text = c.deref.result.now in
    let same : length text ≡ length (directory_text c.args.directory.now) = ap length (c.deref.ensures.value ∙ c.in_ok-text.ensures.text) in
    let blocks : blocks_of_size size (length text) ≡ blocks_of_size size (length (directory_text c.args.directory.now)) = ap (blocks_of_size size) same in
    let count = text_count (blocks_of size text) (drop (length c.args.writes.now.items) c.args.given.now) c.args.writes.now.items c.put_blocks.new.writes.items c.in_ok-put_blocks.ensures in
    omega (arith, one, blocks, count, length-map-range_with_len (block_of size text) 0 (blocks_of_size size (length text)), c.requires.enough)

pub returns : goal.returns
returns c =
    let size = c.args.block_size in
    let given = c.args.given.now in
    let old = c.args.writes.now.items in
    let new = c.put_blocks.new.writes.items in
    let is = c.deref-2.ensures.value ∙ c.in_ok-put_words.ensures ∙ ap (λ xs. xs ++ flat_map word c.args.listed.now) c.in_ok-numbers.ensures.items in
    let len : length c.deref-2.result.now ≡ 4 * length c.args.listed.now = ap length is ∙ length-words c.args.listed.now in
    let one : blocks_of_size size (length c.deref-2.result.now) ≡ 1 = ap (blocks_of_size size) len ∙ one_block size (4 * length c.args.listed.now) c.requires.size (omega (arith, c.requires.some)) c.requires.one in
    let text = c.deref.ensures.value ∙ c.in_ok-text.ensures.text in
    let first = c.in_ok-put_blocks.ensures ∙ ap (λ t. old ++ writes_to (blocks_of size t) (drop (length old) given)) text in
    let cut = one_cut size c.deref-2.result.now one ∙ ap (λ t. block_of size t 0 ∷ []) is in
    let same = ap (λ xs. new ++ writes_to xs (drop (length new) given)) cut ∙ writes_two (blocks_of size (directory_text c.args.directory.now)) (block_of size (flat_map word c.args.listed.now) 0 ∷ []) given old new first in
    subst (λ xs. OnOk c.put_blocks-2.result (c.put_blocks-2.new.writes.items ≡ xs)) same c.put_blocks-2.ensures
