-- What a session reads next, and one turn of its loop.
use Rattle.std.specs.Prelude.{◌≡◌, ◌≤◌, ◌<◌, ◌^◌, ◌⊎◌, ⊤, ℕ, List, [], ◌++◌, length}
use Rattle.srv_edge.specs.declared.failed.SessionEnd.TheVariants.{Bye, WriteFault}
use Rattle.srv_edge.specs.Finished.{IsReply}
use Rattle.srv_edge.specs.Frames.{Frame, IsBye, IsFrame, IsLength, IsPartFrame, Message, frame_bytes, spoken, version_behind, word_bytes}
use Rattle.request_frames.specs.Requests.{Asked, hello, add_type, add_item, add_name, get_type, get_item, get_name, commit, counts, bye, add_types, add_items}
use Rattle.request_frames.specs.Talk.{AnswersFrame}
use Rattle.request_frames.specs.Session.{IsInputEnd, IsSession}
use Rattle.request_frames.specs.declared.next.Filled.{Filled}
use Rattle.request_frames.specs.declared.next.Filled.TheVariants.{Full, NothingLeft, AtLimit, Failed}
use Rattle.request_frames.specs.declared.next.Next.{Next}
use Rattle.request_frames.specs.declared.next.Next.TheVariants.{Whole, Ended, CutShort, BadLength, TooLong, ReadFault}
use Rattle.request_frames.specs.declared.serve.Turn.{Turn}
use Rattle.request_frames.specs.declared.serve.Turn.TheVariants.{GoesOn, Ends}

-- a buffer was filled: to so many bytes, or up to the input's end, the limit or a fault
abbrev pub IsFilled : Filled → ℕ → ℕ → ℕ → Type 0
IsFilled Full count want limit = (count ≡ want) × (count ≤ limit)
IsFilled NothingLeft count want limit = (count < want) × (count < limit)
IsFilled AtLimit count want limit = (count < want) × (count ≡ limit)
IsFilled Failed count want limit = (count < want) × (count < limit)

-- a length that a request may have in a version, and as many bytes behind it as it says
pub record IsWholeFrame (version : ℕ) (bytes : List ℕ) : Type 0 where
  pub behind : List ℕ
  pub spelled : bytes ≡ word_bytes (length behind) ++ behind
  pub is_length : IsLength version (length behind)

-- nothing, or less than a frame
abbrev pub IsLess : ℕ → List ℕ → Type 0
IsLess version bytes = (bytes ≡ []) ⊎ IsPartFrame version bytes

-- these bytes came in the place of the next frame, which is of this version
abbrev pub IsNext : Next → ℕ → List ℕ → ℕ → Type 0
IsNext Whole version bytes limit = IsWholeFrame version bytes × (length bytes ≤ limit)
IsNext Ended version bytes limit = (bytes ≡ []) × (0 < limit)
IsNext CutShort version bytes limit = IsPartFrame version bytes × (length bytes < limit)
IsNext (BadLength n) version bytes limit = (bytes ≡ word_bytes n) × ¬ IsLength version n × (n < 2 ^ 32) × (length bytes ≤ limit)
IsNext TooLong version bytes limit = IsLess version bytes × (length bytes ≡ limit)
IsNext ReadFault version bytes limit = IsLess version bytes × (length bytes < limit)

-- what follows a request of a version, where its reply is sent
abbrev pub turn_behind : ℕ → Asked → Turn
turn_behind version (hello asked) = GoesOn (spoken asked)
turn_behind version (add_type r) = GoesOn version
turn_behind version (add_item r) = GoesOn version
turn_behind version (add_name name) = GoesOn version
turn_behind version (get_type index) = GoesOn version
turn_behind version (get_item index) = GoesOn version
turn_behind version (get_name offset) = GoesOn version
turn_behind version commit = GoesOn version
turn_behind version counts = GoesOn version
turn_behind version bye = Ends Bye
turn_behind version (add_types list) = GoesOn version
turn_behind version (add_items list) = GoesOn version

-- what follows a frame whose reply was sent: frames of a version, or behind a Bye the end
abbrev pub Follows : Turn → Frame → Type 0
Follows (GoesOn version) f = ¬ IsBye f × (version ≡ version_behind f)
Follows (Ends end) f = (end ≡ Bye) × IsBye f

-- One turn from a version on: a frame was answered and the session goes on, or it ended.
abbrev pub IsTurn : {S : Type 0} → (S → Asked → Message → S → Type 0) → ℕ → ℕ → S → S → List ℕ → List ℕ → Turn → Type 0
IsTurn answers version limit old new read sent (GoesOn next) = (f : Frame) × (reply : Frame) × IsFrame version f × Follows (GoesOn next) f
    × AnswersFrame answers old f reply new × (read ≡ frame_bytes f) × (sent ≡ frame_bytes reply) × (length read ≤ limit) × IsReply f reply
IsTurn answers version limit old new read sent (Ends end) = IsSession answers version limit old new read sent end

-- what follows an answered frame: another turn, or an end that is none of the source's
abbrev pub IsAnswered : Turn → Type 0
IsAnswered (GoesOn version) = ⊤
IsAnswered (Ends Bye) = ⊤
IsAnswered (Ends WriteFault) = ⊤
IsAnswered (Ends end) = ⊥

-- a turn that ended at the input's end
abbrev pub EndsInput : Turn → Type 0
EndsInput (GoesOn version) = ⊥
EndsInput (Ends end) = IsInputEnd end
