use Rattle.std.proofs.Common.{◌≡◌, ◌*◌, ◌+◌, ℕ, Bool, true, false, cond, Some, Ok, [], length, drop, find, ap, sym, ◌∙◌, arith}
use Rattle.std.proofs.lemmas.List.{length-drop}
use Rattle.std.proofs.lemmas.Slice.{between_to_end}
use Rattle.byteorder.specs.Endian.{little_number}
use Rattle.info_stream.specs.Named.{has_text, pairs_of, stream_of}
use Rattle.info_stream.specs.Words.{words_in}
use Rattle.info_stream.proofs.Maps.{pairs_at, pairs_in-short}
use Rattle.info_stream.proofs.named.stream_in.Goals as goal

pub returns-then-has_text : goal.returns-then-has_text
returns-then-has_text c =
    let pairs = c.args.pairs.now in
    let i = c.loop-i.i in
    let test : ℕ × ℕ → Bool = λ pair. has_text c.args.texts.now c.args.name.now pair.0 in
    let rest = pairs_of (words_in (drop (8 * (i + 1)) pairs)) in
    let at : c.read_u32-at.result ≡ little_number 4 (drop (8 * i) pairs) = c.read_u32-at.ensures ∙ ap (little_number 4) (between_to_end pairs (8 * i) (length pairs) (omega arith)) in
    let stream : c.read_u32.result ≡ little_number 4 (drop (8 * i + 4) pairs) = c.read_u32.ensures ∙ ap (little_number 4) (between_to_end pairs (8 * i + 4) (length pairs) (omega arith)) in
    let passes : has_text c.args.texts.now c.args.name.now (little_number 4 (drop (8 * i) pairs)) ≡ true = ap (has_text c.args.texts.now c.args.name.now) (sym at) ∙ sym c.has_text.ensures ∙ c.if-has_text.true in
    sym (ap stream_of (c.loop-i.invariant ∙ ap (find test) (pairs_at pairs i (omega arith)) ∙ ap (λ b. cond b (Some (little_number 4 (drop (8 * i) pairs), little_number 4 (drop (8 * i + 4) pairs))) (find test rest)) passes) ∙ ap (λ n. Ok n) (sym stream))

pub loop-i-preserved : goal.loop-i-preserved
loop-i-preserved c =
    let pairs = c.args.pairs.now in
    let i = c.loop-i.i in
    let test : ℕ × ℕ → Bool = λ pair. has_text c.args.texts.now c.args.name.now pair.0 in
    let rest = pairs_of (words_in (drop (8 * (i + 1)) pairs)) in
    let at : c.read_u32-at.result ≡ little_number 4 (drop (8 * i) pairs) = c.read_u32-at.ensures ∙ ap (little_number 4) (between_to_end pairs (8 * i) (length pairs) (omega arith)) in
    let fails : has_text c.args.texts.now c.args.name.now (little_number 4 (drop (8 * i) pairs)) ≡ false = ap (has_text c.args.texts.now c.args.name.now) (sym at) ∙ sym c.has_text.ensures ∙ c.if-has_text.false in
    c.loop-i.invariant ∙ ap (find test) (pairs_at pairs i (omega arith)) ∙ ap (λ b. cond b (Some (little_number 4 (drop (8 * i) pairs), little_number 4 (drop (8 * i + 4) pairs))) (find test rest)) fails

pub returns : goal.returns
returns c =
    let pairs = c.args.pairs.now in
    let i = c.loop-i.i in
    let test : ℕ × ℕ → Bool = λ pair. has_text c.args.texts.now c.args.name.now pair.0 in
    let none : pairs_of (words_in (drop (8 * i) pairs)) ≡ [] = pairs_in-short (drop (8 * i) pairs) (omega (arith, length-drop (8 * i) pairs)) in
    sym (ap stream_of (c.loop-i.invariant ∙ ap (find test) none))
