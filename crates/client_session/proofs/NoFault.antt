-- Replies of tables beneath which no file lies.
use Rattle.std.proofs.Common.{◌≡◌, ℕ, true, false, List, refl, sym, ◌∙◌, arith}
use Rattle.srv_edge.specs.declared.head.Head.{Head}
use Rattle.srv_edge.specs.Frames.{Message, frame_bytes}
use Rattle.request_frames.specs.Requests.{Asked, request_message}
use Rattle.request_frames.specs.Talk.{IsReplyTo, PutsReply, is_disk_fault}
use Rattle.client_session.specs.Tables.{Tables, AnswersAlone, AnswersByTables}

-- a reply that stands in a piece, and is no fault of a device
pub puts : (head : Head) (x : Tables) (a : Asked) (reply : Message) (out : List ℕ) (new : Tables) → out ≡ frame_bytes (record { head = head; message = reply }) → AnswersByTables x a reply new
    → is_disk_fault reply ≡ false → IsReplyTo (request_message a) reply → PutsReply AnswersAlone head x a out new
puts head x a reply out new spelled answered none kind = record {
  reply = reply;
  spelled = spelled;
  answered = record {
    answered = answered;
    same_loans = refl;
    cause = record { never_falls = omega arith; rose = λ fault. absurd (let no : true ≡ false = sym fault ∙ none in cc) };
  };
  of_kind = kind;
}
