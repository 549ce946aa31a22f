use Rattle.std.proofs.Common.{◌≡◌, ◌++◌, drop, sym, ap, ◌∙◌, arith}
use Rattle.byteorder.specs.Endian.{little_number}
use Rattle.srv_edge.specs.Frames.{word_bytes}
use Rattle.srv_edge.proofs.Numbers.{little_number-word}
use Rattle.request_frames.proofs.Framing.{spelled_two}
use Rattle.request_frames.proofs.read.head_of.Goals as goal

-- the bytes behind the kind begin with the tag
tag_read : (c : goal.After-word_at-tag) → drop 1 c.args.frame.now ≡ word_bytes c.word_at-tag.result ++ drop 4 c.behind.result.now
tag_read c = sym c.behind.ensures ∙ c.word_at-tag.ensures

pub returns-then-version-eq2-clause-head : goal.returns-then-version-eq2-clause-head
returns-then-version-eq2-clause-head c =
    let number : little_number 4 (drop 1 c.args.frame.now) ≡ c.word_at-tag.result =
    ap (little_number 4) (tag_read c) ∙ little_number-word c.word_at-tag.result (drop 4 c.behind.result.now) c.word_at-tag.type_inv in
    rw c.if-version-eq2.true (ap (λ n. record { version = 2; tag = n }) (sym number))

pub returns-then-version-eq2-clause-spelled : goal.returns-then-version-eq2-clause-spelled
returns-then-version-eq2-clause-spelled c =
    rw c.if-version-eq2.true (spelled_two c.args.frame.now c.word_at-tag.result (drop 4 c.behind.result.now) (omega (arith, c.requires.some)) (tag_read c) c.word_at-tag.type_inv)
