use Rattle.std.proofs.Common.{◌≡◌, ◌++◌, length, drop, sym, ap, ◌∙◌, arith, length-append}
use Rattle.std.proofs.lemmas.List.{drop_at}
use Rattle.srv_edge.specs.Frames.{word_bytes}
use Rattle.srv_edge.proofs.Numbers.{length-word_bytes}
use Rattle.request_frames.proofs.serve.behind_length.Goals as goal

pub behind-requires : goal.behind-requires
behind-requires c =
    let n = length c.requires.behind in
    omega (arith, ap length c.bytes.ensures.bytes, ap length c.requires.spelled, length-append (word_bytes n) c.requires.behind, length-word_bytes n)

-- the bytes that are given back are those behind the length
is_behind : (c : goal.After-behind) → c.behind.result.now ≡ c.requires.behind
is_behind c =
    let n = length c.requires.behind in
    c.behind.ensures ∙ ap (drop 4) (c.bytes.ensures.bytes ∙ c.requires.spelled) ∙ drop_at (word_bytes n) c.requires.behind 4 (length-word_bytes n)

pub returns-clause-is_length : goal.returns-clause-is_length
returns-clause-is_length c = rw (is_behind c) c.requires.is_length

pub returns-clause-spelled : goal.returns-clause-spelled
returns-clause-spelled c = c.requires.spelled ∙ ap (λ xs. word_bytes (length xs) ++ xs) (sym (is_behind c))
