use Rattle.std.proofs.Common.{◌≡◌, ◌≤◌, ◌∷◌, ◌++◌, length, rules, ap, arith}
use Rattle.std.specs.Prelude.{decimal}
use Rattle.std.proofs.lemmas.Fmt.{length-decimal-le}
use Rattle.srv_edge.specs.Frames.{word_bytes}
use Rattle.srv_edge.proofs.Numbers.{length-word_bytes}
use Rattle.drawn_session.proofs.Strings.{filled_is}
use Rattle.drawn_session.proofs.records.string_of.Goals as goal

pub returns-clause-bytes : goal.returns-clause-bytes
returns-clause-bytes c =
    let digits = decimal c.args.n in
    let few : length digits ≤ 3 = length-decimal-le 3 c.args.n (omega arith) (omega (arith, c.requires)) (omega (arith, c.requires)) in
    let old : c.extend_from_slice-2.new.self.items ≡ (10 ∷ 0 ∷ 5 ∷ 22 ∷ word_bytes 0) ++ digits = search rules in
    let text : c.as_bytes.result.now ≡ digits = search rules in
    filled_is (word_bytes 0) digits c.extend_from_slice-2.new.self.items c.resize.new.self.items _ (length-word_bytes 0)
    (omega (arith, few, c.in_ok-extend_from_slice-2.ensures.len, c.in_ok-extend_from_slice.ensures.len, c.in_ok-record.ensures.len, ap length text, ap length c.word.ensures, length-word_bytes 0)) old
    c.in_ok-resize.ensures.items
