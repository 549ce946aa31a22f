use Rattle.std.proofs.Common.{◌≡◌, ◌≤◌, ◌++◌, length, sym, ap, subst, ◌∙◌}
use Rattle.srv_edge.specs.declared.failed.SessionEnd.TheVariants.{WriteFault}
use Rattle.srv_edge.specs.declared.piece.TheConstants.{PIECE_BYTES}
use Rattle.srv_edge.specs.Frames.{frame_bytes}
use Rattle.request_frames.specs.Requests.{frame_in}
use Rattle.request_frames.specs.Serving.{answers_with}
use Rattle.request_frames.specs.Session.{IsSession}
use Rattle.request_frames.proofs.Following.{is_answered}
use Rattle.request_frames.proofs.Turns.{answer_is_reply, answered_turn, fault_session}
use Rattle.request_frames.proofs.serve.send_answer.Goals as goal

pub returns-in-Err-clause-sent : goal.returns-in-Err-clause-sent
returns-in-Err-clause-sent g c =
    let f = frame_in c.args.version c.behind_length.result.now in
    let answered = c.answer_frame-turn.ensures in
    let spelled : frame_bytes f ≡ c.args.frame.now = answered.spelled ∙ sym c.behind_length.ensures.spelled in
    let answer = answered.reply in
    let went = c.in-Err.ensures.went in
    let part : frame_bytes answer.0 ≡ went.0 ++ went.1 = sym answer.1 ∙ sym c.bytes.ensures.bytes ∙ went.2 in
    let le : length (frame_bytes f) ≤ c.args.limit = rw spelled c.requires.within in (
      went.0,
      subst (λ read. IsSession (answers_with g.K.Desk) c.args.version c.args.limit c.args.desk.now c.answer_frame-turn.new.desk read went.0 WriteFault) spelled
          (fault_session (answers_with g.K.Desk) c.answer_frame-turn.result c.args.version c.args.limit c.args.desk.now c.answer_frame-turn.new.desk f answer.0 went.0 went.1
          answered.is_frame answered.follows answer.2
          (answer_is_reply (answers_with g.K.Desk) c.args.desk.now c.answer_frame-turn.new.desk f answer.0 answer.2 (subst (λ xs. length xs ≤ PIECE_BYTES) answer.1 c.bytes.ensures.bound)) le part went.3),
      went.4,
    )

pub returns-in-Ok-clause-sent : goal.returns-in-Ok-clause-sent
returns-in-Ok-clause-sent g c =
    let f = frame_in c.args.version c.behind_length.result.now in
    let answered = c.answer_frame-turn.ensures in
    let spelled : frame_bytes f ≡ c.args.frame.now = answered.spelled ∙ sym c.behind_length.ensures.spelled in
    let answer = answered.reply in
    let text : c.bytes.result.now ≡ frame_bytes answer.0 = c.bytes.ensures.bytes ∙ answer.1 in (
      frame_bytes answer.0,
      answered_turn (answers_with g.K.Desk) c.answer_frame-turn.result c.args.version c.args.limit c.args.desk.now c.answer_frame-turn.new.desk f answer.0 c.args.frame.now
          answered.is_frame answered.follows answer.2
          (answer_is_reply (answers_with g.K.Desk) c.args.desk.now c.answer_frame-turn.new.desk f answer.0 answer.2 (subst (λ xs. length xs ≤ PIECE_BYTES) answer.1 c.bytes.ensures.bound)) spelled c.requires.within,
      λ tells. c.in-Ok.ensures.went tells ∙ ap (λ xs. g.L.Sink.taken c.args.link.now ++ xs) text,
    )

pub returns-in-Ok-clause-ends : goal.returns-in-Ok-clause-ends
returns-in-Ok-clause-ends g c = is_answered c.answer_frame-turn.result (frame_in c.args.version c.behind_length.result.now) c.answer_frame-turn.ensures.follows
