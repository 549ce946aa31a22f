use Rattle.std.proofs.Common.{◌+◌, length, refl, sym, ap, subst, inl, inr, arith}
use Rattle.std.proofs.lemmas.List.{get_or-drop}
use Rattle.srv_edge.specs.declared.code.TheConstants as code
use Rattle.srv_edge.specs.Frames.{refused, tag_size}
use Rattle.request_frames.specs.Next.{Follows, turn_behind}
use Rattle.request_frames.specs.Requests.{asked, frame_in, message_in, head_in}
use Rattle.request_frames.specs.Talk.{IsReplyTo}
use Rattle.request_frames.proofs.Following.{bad_follows, turn_follows}
use Rattle.request_frames.proofs.serve.answer_frame.Goals as goal

pub returns-in-Ok-clause-reply : goal.returns-in-Ok-clause-reply
returns-in-Ok-clause-reply g c =
    let is = c.in-Ok.ensures.request in
    let answer = c.answer.ensures in (
      record { head = c.head_of-head.result; message = answer.reply },
      answer.spelled,
      (
        c.head_of-head.ensures.head,
        inl (asked c.in-Ok.request, is, c.in-Ok.ensures.asked, answer.answered, subst (λ m. IsReplyTo m answer.reply) is answer.of_kind),
      ),
    )

pub returns-in-Ok-clause-follows : goal.returns-in-Ok-clause-follows
returns-in-Ok-clause-follows g c =
    let a = asked c.in-Ok.request in
    let head = head_in c.args.version c.args.frame.now in
    let follows = turn_follows c.args.version head a c.in-Ok.ensures.asked in
    subst (λ turn. Follows turn (frame_in c.args.version c.args.frame.now)) (sym c.next_turn.ensures)
    (subst (λ m. Follows (turn_behind c.args.version a) (record { head = head; message = m })) c.in-Ok.ensures.request follows)

pub returns-in-Err-Kind-clause-reply : goal.returns-in-Err-Kind-clause-reply
returns-in-Err-Kind-clause-reply g c = (
  record { head = c.head_of-head.result; message = refused code.BAD_KIND c.from.result 0 },
  c.write_bad.ensures,
  (c.head_of-head.ensures.head, inr (inl (c.in-Err-Kind.ensures.kind cc, ap (λ k. refused code.BAD_KIND k 0) c.from.ensures, refl))),
)

pub returns-in-Err-Body-clause-reply : goal.returns-in-Err-Body-clause-reply
returns-in-Err-Body-clause-reply g c = (
  record { head = c.head_of-head.result; message = refused code.BAD_BODY (length c.body_of.result.now) 0 },
  c.write_bad-in-Err-Body.ensures,
  (c.head_of-head.ensures.head, inr (inr (c.in-Err-Body.ensures.body cc, ap (λ xs. refused code.BAD_BODY (length xs) 0) c.body_of.ensures, refl))),
)

pub returns-in-Err-Body-clause-follows : goal.returns-in-Err-Body-clause-follows
returns-in-Err-Body-clause-follows g c =
    let m = message_in c.args.version c.args.frame.now in
    bad_follows c.args.version (head_in c.args.version c.args.frame.now) m
    (λ i. omega (arith, get_or-drop (1 + tag_size c.args.version) c.args.frame.now i 0, (c.type_inv.frame (1 + tag_size c.args.version + i)).fits))
    (c.in-Err-Body.ensures.body cc)
