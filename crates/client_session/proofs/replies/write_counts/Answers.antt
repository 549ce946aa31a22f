use Rattle.std.proofs.Common.{◌≡◌, ◌≤◌, ◌++◌, ℕ, List, [], length, ap, ◌∙◌, arith}
use Rattle.srv_edge.specs.declared.head.Head.{Head}
use Rattle.srv_edge.specs.Frames.{Frame, frame_bytes, word_bytes}
use Rattle.srv_edge.proofs.Numbers.{length-word_bytes}
use Rattle.request_frames.proofs.Framing.{length-frame_bytes, small_tag}
use Rattle.client_session.proofs.replies.write_counts.Goals as goal

-- the reply with this body
abbrev counted : Head → List ℕ → Frame
counted head body = record { head = head; message = record { kind = 137; body = body } }

-- how long the reply is before its body
short : (head : Head) (out : List ℕ) → out ≡ frame_bytes (counted head []) → (4 ≤ length out) × (length out ≤ 9)
short head out is = (omega (arith, ap length is, length-frame_bytes (counted head [])), omega (arith, ap length is, length-frame_bytes (counted head []), small_tag head.version))

pub push_body-requires-clause-some : goal.push_body-requires-clause-some
push_body-requires-clause-some c = (short c.args.head c.write_reply.new.out c.write_reply.ensures).0

pub push_body-requires-clause-fits : goal.push_body-requires-clause-fits
push_body-requires-clause-fits c =
    omega (arith, (short c.args.head c.write_reply.new.out c.write_reply.ensures).1, ap length c.word.ensures, length-word_bytes c.args.types)

pub push_body-requires-2-clause-fits : goal.push_body-requires-2-clause-fits
push_body-requires-2-clause-fits c =
    omega (
      arith,
      (short c.args.head c.write_reply.new.out c.write_reply.ensures).1,
      c.push_body.ensures.size,
      ap length c.word.ensures,
      length-word_bytes c.args.types,
      ap length c.word-2.ensures,
      length-word_bytes c.args.items,
    )

pub push_body-requires-3-clause-fits : goal.push_body-requires-3-clause-fits
push_body-requires-3-clause-fits c =
    omega (
      arith,
      (short c.args.head c.write_reply.new.out c.write_reply.ensures).1,
      c.push_body.ensures.size,
      c.push_body-2.ensures.size,
      ap length c.word.ensures,
      length-word_bytes c.args.types,
      ap length c.word-2.ensures,
      length-word_bytes c.args.items,
      ap length c.word-3.ensures,
      length-word_bytes c.args.names,
    )

pub returns : goal.returns
returns c =
    let head = c.args.head in
    let a = word_bytes c.args.types in
    let b = word_bytes c.args.items in
    let one = c.push_body.ensures.frame (counted head []) c.write_reply.ensures ∙ ap (λ xs. frame_bytes (counted head xs)) c.word.ensures in
    let two = c.push_body-2.ensures.frame (counted head a) one ∙ ap (λ xs. frame_bytes (counted head (a ++ xs))) c.word-2.ensures in
    c.push_body-3.ensures.frame (counted head (a ++ b)) two ∙ ap (λ xs. frame_bytes (counted head (a ++ b ++ xs))) c.word-3.ensures
