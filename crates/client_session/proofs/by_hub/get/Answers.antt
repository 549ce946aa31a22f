use Rattle.std.proofs.Common.{◌≡◌, ◌+◌, ◌++◌, ℕ, List, [], length, drop, Ok, refl, ap, subst, ◌∙◌, arith, length-append}
use Rattle.std.proofs.lemmas.List.{drop_at}
use Rattle.srv_edge.specs.declared.head.Head.{Head}
use Rattle.srv_edge.specs.declared.kind.TheConstants as kinds
use Rattle.srv_edge.specs.Frames.{Frame, frame_bytes}
use Rattle.table_model.specs.declared.call.Outcome.TheVariants as outcome
use Rattle.hub.specs.Calls.{get_of}
use Rattle.request_frames.proofs.Framing.{length-frame_bytes, small_tag}
use Rattle.client_session.specs.Sharing.{CallsBy}
use Rattle.client_session.proofs.by_hub.get.Goals as goal

-- the frame with this body
abbrev got : Head → ℕ → List ℕ → Frame
got head kind body = record { head = head; message = record { kind = kind + kinds.REPLY; body = body } }

pub get_from-requires-clause-room : goal.get_from-requires-clause-room
get_from-requires-clause-room g c =
    omega (arith, ap length c.write_reply.ensures, length-frame_bytes (got c.args.head c.get_kind.result []), small_tag c.args.head.version)

pub take_in-requires : goal.take_in-requires
take_in-requires g c =
    let given = c.in-Ok.ensures.given in
    omega (
      arith,
      ap length given.1,
      length-append c.write_reply.new.out given.0,
      ap length c.write_reply.ensures,
      length-frame_bytes (got c.args.head c.get_kind.result []),
    )

pub returns-in-Ok-clause-puts : goal.returns-in-Ok-clause-puts
returns-in-Ok-clause-puts g c =
    let given = c.in-Ok.ensures.given in
    let bytes = given.0 in
    let behind : drop (length c.write_reply.new.out) c.get_from.new.out ≡ bytes = ap (drop (length c.write_reply.new.out)) given.1 ∙ drop_at c.write_reply.new.out bytes (length c.write_reply.new.out) refl in
    record {
      answered = Ok (outcome.Bytes bytes);
      spelled = c.take_in.ensures.frame (got c.args.head c.get_kind.result []) bytes (given.1 ∙ ap (λ xs. xs ++ bytes) c.write_reply.ensures) ∙ ap (λ kind. frame_bytes (got c.args.head kind bytes)) c.get_kind.ensures;
      called = subst (λ xs. CallsBy c.args.pass.now (get_of c.args.table c.args.at) (Ok (outcome.Bytes xs)) c.get_from.new.pass) behind c.in-Ok.ensures.called;
    }
