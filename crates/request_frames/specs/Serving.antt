-- What serving a link does, turn by turn and as a whole.
use Rattle.std.specs.Prelude.{◌≡◌, ◌≤◌, ℕ, Bool, nat_le, IsTrue, List, [], length, take, if◌then◌else◌}
use Rattle.srv_edge.specs.declared.failed.SessionEnd.{SessionEnd}
use Rattle.srv_edge.specs.declared.failed.SessionEnd.TheVariants.{Bye, Ended, CutShort, BadLength, ReadFault, WriteFault, TooLong}
use Rattle.srv_edge.specs.declared.sink.Sink as sink
use Rattle.srv_edge.specs.declared.source.Source as source
use Rattle.srv_edge.specs.Count.{HasCause, RoseBy}
use Rattle.srv_edge.specs.Exchange.{CameFrom, WentTo}
use Rattle.srv_edge.specs.Frames.{AreFrames, Frame, Message, Tail, at_end, cut_short, bad_length, at_bye, frame_bytes}
use Rattle.request_frames.specs.declared.desk.Desk as desk
use Rattle.request_frames.specs.declared.serve.Turn.{Turn}
use Rattle.request_frames.specs.declared.serve.Turn.TheVariants.{Ends}
use Rattle.request_frames.specs.Next.{EndsInput, IsTurn}
use Rattle.request_frames.specs.Requests.{Asked}
use Rattle.request_frames.specs.Session.{IsInputEnd, IsSession}
use Rattle.request_frames.specs.Talk.{AnswersFrame, AnswersWith, disk_faults}

-- what a desk answers, with what that does beside
abbrev pub answers_with : {K G : Type 0} → desk.Ghosts K G → K → Asked → Message → K → Type 0
answers_with d = AnswersWith d.answers d.faults d.loans

-- A frame was answered: by the desk, or by what is wrong with it. The reply stands in a piece.
abbrev pub PutsAnswer : {K G : Type 0} → desk.Ghosts K G → K → Frame → List ℕ → K → Type 0
PutsAnswer d old f out new = (reply : Frame) × (out ≡ frame_bytes reply) × AnswersFrame (answers_with d) old f reply new

-- what was sent in a turn, behind what was read
abbrev pub SendsTurn : {L K G : Type 0} → sink.Ghosts L → desk.Ghosts K G → ℕ → ℕ → List ℕ → L → L → K → K → Turn → Type 0
SendsTurn k d version limit read link link' old new turn = (sent : List ℕ) × IsTurn (answers_with d) version limit old new read sent turn × WentTo k sent link link'

-- One turn on a link, from a version on: what came, what was sent, and what became of the link.
pub record TakesTurn {L K G : Type 0} (s : source.Ghosts L) (k : sink.Ghosts L) (d : desk.Ghosts K G) (version limit : ℕ) (read : List ℕ) (link link' : L) (old new : K) (turn : Turn) : Type 0 where
  pub sent : SendsTurn k d version limit read link link' old new turn
  pub came : CameFrom s read link link'
  pub none_left : EndsInput turn → IsTrue s.tells → s.left link' ≡ []
  pub loans : s.loans link' ≡ s.loans link
  pub reads : HasCause (turn ≡ Ends ReadFault) (s.faults link) (s.faults link')
  pub writes : HasCause (turn ≡ Ends WriteFault) (k.faults link) (k.faults link')

-- Serving a link from its start, in version 1, to its end: these bytes were read and these sent, and they are a session of the desk.
pub record Serves {L K G : Type 0} (s : source.Ghosts L) (k : sink.Ghosts L) (d : desk.Ghosts K G) (limit : ℕ) (link link' : L) (old new : K) (end : SessionEnd) : Type 0 where
  pub read : List ℕ
  pub sent : List ℕ
  pub session : IsSession d.answers 1 limit old new read sent end
  pub came : CameFrom s read link link'
  pub went : WentTo k sent link link'
  -- where the input ended, nothing is left in a source that tells it
  pub none_left : IsInputEnd end → IsTrue s.tells → s.left link' ≡ []
  pub reads : HasCause (end ≡ ReadFault) (s.faults link) (s.faults link')
  pub writes : HasCause (end ≡ WriteFault) (k.faults link) (k.faults link')
  -- as many replies as are refusals for a fault of the device, as often at least the desk's count rose
  pub disk_faults_rose : RoseBy (disk_faults session.replies) (d.faults old) (d.faults new)
  pub desk_count : d.faults old ≤ d.faults new
  pub link_loans : s.loans link' ≡ s.loans link
  pub desk_loans : d.loans new ≡ d.loans old

-- How a session ends where nothing fails, by where the bytes stop that it may read, and whether these are as many as
-- the limit.
abbrev pub end_of : Bool → Tail → SessionEnd
end_of full at_end = if full then TooLong else Ended
end_of full cut_short = if full then TooLong else CutShort
end_of full (bad_length version n) = BadLength
end_of full at_bye = Bye

-- The input alone says the end: of a source that tells what is left, where neither it nor the sink failed.
abbrev pub EndsByInput : Bool → ℕ → List ℕ → Type 0 → Type 0 → SessionEnd → Type 0
EndsByInput tells limit left read_rose write_rose end =
    IsTrue tells → ¬ read_rose → ¬ write_rose → (frames : List Frame) (tail : Tail) → AreFrames 1 (take limit left) frames tail
    → end ≡ end_of (nat_le limit (length left)) tail
