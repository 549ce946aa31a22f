use Rattle.std.proofs.Common.{◌≡◌, ◌<◌, ◌*◌, take, All, rules, ap, sym, subst, ◌∙◌, length, get_or, arith}
use Rattle.std.proofs.lemmas.Bool.{ltb-true}
use Rattle.stream_directory.specs.Directory.{StreamBlocks, blocks_in, stream_at}
use Rattle.msf_image.proofs.Joining.{block_inside, inside_piece}
use Rattle.msf_image.proofs.Listed.{usable_inside}
use Rattle.msf_image.proofs.Relating.{content_read}
use Rattle.msf_image.proofs.Sizes.{cut_long, entry_at, sized_at}
use Rattle.msf_image.proofs.image.Image.read_stream.Goals as goal

pub read_blocks-requires-clause-inside : goal.read_blocks-requires-clause-inside
read_blocks-requires-clause-inside g c = λ tells k d lt.
    let s = c.args.self.now.head in
    let x = c.in-Some-Some.field-0.now in
    let lookup = c.in-Some-Some.ensures.lookup in
    let all = usable_inside s _ _ c.requires.whole.directory.usable in
    let inside : c.args.stream < length c.args.self.now.directory = omega (arith, ltb-true c.args.stream (length c.streams.result.now) (sym lookup.0), ap length c.streams.ensures) in
    let kept = inside_piece blocks_in c.args.self.now.directory c.args.stream x (λ b. b < s.blocks) inside (lookup.1 ∙ ap (λ xs. get_or xs c.args.stream x) c.streams.ensures) all in
    let blocks = subst (All (λ b. b < s.blocks)) (ap blocks_in c.in-Some-Some.field-0-is ∙ sym c.blocks-2.ensures) kept in
    block_inside _ s.blocks s.block _ (blocks k d lt) (c.requires.inside tells)

pub returns-in_default-clause-content : goal.returns-in_default-clause-content
returns-in_default-clause-content g c = search rules

pub returns-in_default-clause-stream : goal.returns-in_default-clause-stream
returns-in_default-clause-stream g c = λ limit streams tells some r.
    returns-in_default-clause-content g c tells ∙ content_read _ limit c.args.self.now streams c.args.stream some r

pub returns-clause-content : goal.returns-clause-content
returns-clause-content g c = search rules

pub returns-clause-stream : goal.returns-clause-stream
returns-clause-stream g c = λ limit streams tells some r.
    returns-clause-content g c tells ∙ content_read _ limit c.args.self.now streams c.args.stream some r

pub returns-clause-size : goal.returns-clause-size
returns-clause-size g c = λ s some is.
    let x = c.in-Some-Some.field-0.now in
    let lookup = c.in-Some-Some.ensures.lookup in
    let inside : c.args.stream < length c.args.self.now.directory = omega (arith, ltb-true c.args.stream (length c.streams.result.now) (sym lookup.0), ap length c.streams.ensures) in
    let there : stream_at c.args.self.now.directory c.args.stream ≡ x = entry_at c.args.self.now.directory c.args.stream x inside (lookup.1 ∙ ap (λ xs. get_or xs c.args.stream x) c.streams.ensures) in
    let kept : c.in-Some-Some.kept ≡ s = cc in
    let size = c.args.self.now.head.block in
    let long : length c.in_ok-bytes.bytes.items ≡ length c.in-Some-Some.kept.blocks * size = c.in_ok-bytes.ensures.len ∙ ap (λ xs. length xs * size) c.blocks-2.ensures in
    let sized = sized_at size c.args.self.now.directory c.args.stream c.in-Some-Some.kept c.requires.whole.directory.sized some (there ∙ c.in-Some-Some.field-0-is) in
    ap length c.truncate.ensures.items ∙ ap (λ n. length (take n c.in_ok-bytes.bytes.items)) c.size.ensures.size
    ∙ cut_long size c.in-Some-Some.kept c.in_ok-bytes.bytes.items c.requires.whole.head.block sized long ∙ ap (λ (k : StreamBlocks). k.size) kept
