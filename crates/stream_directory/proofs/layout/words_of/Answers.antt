use Rattle.std.proofs.Common.{◌≡◌, ◌*◌, [], ◌++◌, length, drop, ap, sym, ◌∙◌, arith}
use Rattle.std.proofs.lemmas.List.{append-nil, length-drop}
use Rattle.std.proofs.lemmas.Slice.{between_to_end}
use Rattle.byteorder.specs.Endian.{little_number}
use Rattle.stream_directory.specs.Reading.{words_in}
use Rattle.stream_directory.proofs.Fields.{words_in-more, words_in-short}
use Rattle.stream_directory.proofs.layout.words_of.Goals as goal

pub loop-i-preserved : goal.loop-i-preserved
loop-i-preserved c =
    let bytes = c.args.bytes.now in
    let i = c.loop-i.i in
    let read : c.read_u32.result ≡ little_number 4 (drop (4 * i) bytes) = c.read_u32.ensures ∙ ap (little_number 4) (between_to_end bytes (4 * i) (length bytes) (omega arith)) in
    words_in-more bytes c.loop-i.words.items c.push.new.self.items i c.read_u32.result (omega arith) c.loop-i.invariant read c.in_ok-push.ensures.items

pub returns : goal.returns
returns c =
    let bytes = c.args.bytes.now in
    let i = c.loop-i.i in
    let none : words_in (drop (4 * i) bytes) ≡ [] = words_in-short (drop (4 * i) bytes) (omega (arith, length-drop (4 * i) bytes)) in
    sym (c.loop-i.invariant ∙ ap (λ xs. c.loop-i.words.items ++ xs) none ∙ append-nil c.loop-i.words.items)
