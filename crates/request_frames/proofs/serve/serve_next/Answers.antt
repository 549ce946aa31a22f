use Rattle.std.proofs.Common.{refl, inl, inr}
use Rattle.srv_edge.specs.declared.failed.SessionEnd.TheVariants.{Ended, CutShort, ReadFault, TooLong}
use Rattle.request_frames.proofs.OneTurn.{answered_turn, read_turn, refused_turn}
use Rattle.request_frames.proofs.Turns.{ended_session, cut_session, long_session, failed_session, refused_session}
use Rattle.request_frames.specs.Serving.{answers_with}
use Rattle.request_frames.proofs.serve.serve_next.Goals as goal

pub returns-in-Whole : goal.returns-in-Whole
returns-in-Whole g c =
    let link = g.met.L.Link in
    answered_turn g.L.Source g.L.Sink g.K.Desk link.beside_source_taken link.beside_source_faults link.beside_sink_given link.beside_sink_left link.beside_sink_faults link.same_loans
    c.send_answer.result c.in-Whole.ensures.calls c.in-Whole.ensures.came c.send_answer.ensures.calls c.send_answer.ensures.sent c.send_answer.ensures.ends

pub returns-in-BadLength : goal.returns-in-BadLength
returns-in-BadLength g c =
    let link = g.met.L.Link in
    let next = c.in-BadLength.ensures.next in
    let s = c.send_refusal.ensures.sent in
    let refused = refused_session (answers_with g.K.Desk) c.send_refusal.result c.args.version c.args.limit c.args.desk.now _ c.next_frame.new.frame s.0 next.0 next.1 next.2 next.3 c.send_refusal.ensures.ends s.1 in
    refused_turn g.L.Source g.L.Sink g.K.Desk link.beside_source_taken link.beside_source_faults link.beside_sink_given link.beside_sink_left link.beside_sink_faults link.same_loans
    c.send_refusal.result c.in-BadLength.ensures.calls c.in-BadLength.ensures.came c.send_refusal.ensures.calls (s.0, refused, s.2) c.send_refusal.ensures.ends

pub returns-in-Ended : goal.returns-in-Ended
returns-in-Ended g c =
    let link = g.met.L.Link in
    let next = c.in-Ended.ensures in
    read_turn g.L.Source g.L.Sink g.K.Desk link.beside_source_taken link.beside_source_faults Ended next.calls next.came
    (ended_session (answers_with g.K.Desk) c.args.version c.args.limit c.args.desk.now c.next_frame.new.frame next.next.0 next.next.1) (λ _. next.none_left (inl refl)) (λ e. cc) (λ e. cc)

pub returns-in-CutShort : goal.returns-in-CutShort
returns-in-CutShort g c =
    let link = g.met.L.Link in
    let next = c.in-CutShort.ensures in
    read_turn g.L.Source g.L.Sink g.K.Desk link.beside_source_taken link.beside_source_faults CutShort next.calls next.came
    (cut_session (answers_with g.K.Desk) c.args.version c.args.limit c.args.desk.now c.next_frame.new.frame next.next.0 next.next.1) (λ _. next.none_left (inr refl)) (λ e. cc) (λ e. cc)

pub returns-in-TooLong : goal.returns-in-TooLong
returns-in-TooLong g c =
    let link = g.met.L.Link in
    let next = c.in-TooLong.ensures in
    read_turn g.L.Source g.L.Sink g.K.Desk link.beside_source_taken link.beside_source_faults TooLong next.calls next.came
    (long_session (answers_with g.K.Desk) c.args.version c.args.limit c.args.desk.now c.next_frame.new.frame next.next.0 next.next.1) (λ no. absurd no) (λ e. cc) (λ e. cc)

pub returns-in-ReadFault : goal.returns-in-ReadFault
returns-in-ReadFault g c =
    let link = g.met.L.Link in
    let next = c.in-ReadFault.ensures in
    read_turn g.L.Source g.L.Sink g.K.Desk link.beside_source_taken link.beside_source_faults ReadFault next.calls next.came
    (failed_session (answers_with g.K.Desk) c.args.version c.args.limit c.args.desk.now c.next_frame.new.frame next.next.0 next.next.1) (λ no. absurd no) (λ e. refl) (λ e. cc)
