-- What a desk answers to the frames of a session, one after another.
use Rattle.std.specs.Prelude.{◌≡◌, ◌==◌, ◌&&◌, ◌+◌, ◌⊎◌, ℕ, Bool, IsTrue, List, [], ◌∷◌, length, slice_index, if◌then◌else◌}
use Rattle.srv_edge.specs.declared.code.TheConstants as code
use Rattle.srv_edge.specs.declared.kind.TheConstants as kinds
use Rattle.srv_edge.specs.declared.head.Head.{Head}
use Rattle.srv_edge.specs.Count.{HasCause}
use Rattle.srv_edge.specs.Frames.{Frame, Message, frame_bytes, refused}
pub use Rattle.srv_edge.specs.Finished.{IsReplyTo}
use Rattle.request_frames.specs.Requests.{Asked, IsAsked, IsBadBody, IsKind, request_message}

-- whether a reply is a refusal for a fault of the device
abbrev pub is_disk_fault : Message → Bool
is_disk_fault reply = (reply.kind == kinds.REFUSED) && (slice_index reply.body 0 == code.DISK_FAULT)

-- how many of these replies are
abbrev pub disk_faults : List Frame → ℕ
disk_faults [] = 0
disk_faults (reply ∷ replies) = (if is_disk_fault reply.message then 1 else 0) + disk_faults replies

-- A desk's answer to a request, with what it does beside: the references are the same, and a refusal for a fault of the
-- device has its cause.
pub record AnswersWith {S : Type 0} (answers : S → Asked → Message → S → Type 0) (faults : S → ℕ) (loans : S → List ℕ) (old : S) (a : Asked) (reply : Message) (new : S) : Type 0 where
  pub answered : answers old a reply new
  pub same_loans : loans new ≡ loans old
  pub cause : HasCause (IsTrue (is_disk_fault reply)) (faults old) (faults new)

-- A whole reply to a request stands in a piece, with the request's head.
pub record PutsReply {S : Type 0} (answers : S → Asked → Message → S → Type 0) (head : Head) (old : S) (a : Asked) (out : List ℕ) (new : S) : Type 0 where
  pub reply : Message
  pub spelled : out ≡ frame_bytes (record { head = head; message = reply })
  pub answered : answers old a reply new
  pub of_kind : IsReplyTo (request_message a) reply

module _ {S : Type 0} (answers : S → Asked → Message → S → Type 0) where
  -- A message is answered in a version: by the desk, or, where it is no request, by what is wrong with it. Then the desk stays.
  abbrev pub AnswersMessage : ℕ → S → Message → Message → S → Type 0
  AnswersMessage version old m reply new =
      ((a : Asked) × (request_message a ≡ m) × IsAsked version a × answers old a reply new × IsReplyTo m reply)
      ⊎ (¬ IsKind version m.kind × (reply ≡ refused code.BAD_KIND m.kind 0) × (new ≡ old))
      ⊎ (IsBadBody version m × (reply ≡ refused code.BAD_BODY (length m.body) 0) × (new ≡ old))

  -- one frame is answered with the same head
  abbrev pub AnswersFrame : S → Frame → Frame → S → Type 0
  AnswersFrame old f reply new = (reply.head ≡ f.head) × AnswersMessage f.head.version old f.message reply.message new

  -- one reply to each frame, in order
  abbrev pub IsTalk : S → List Frame → List Frame → S → Type 0
  IsTalk old [] [] new = new ≡ old
  IsTalk old (f ∷ frames) (r ∷ replies) new = (mid : S) × AnswersFrame old f r mid × IsTalk mid frames replies new
  IsTalk old [] (r ∷ replies) new = ⊥
  IsTalk old (f ∷ frames) [] new = ⊥
