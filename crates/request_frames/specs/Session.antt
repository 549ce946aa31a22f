-- What a session reads and sends, from its start to its end.
use Rattle.std.specs.Prelude.{◌≡◌, ◌≤◌, ◌<◌, ◌⊎◌, ⊤, ℕ, List, ◌++◌, length}
use Rattle.srv_edge.specs.declared.failed.SessionEnd.{SessionEnd}
use Rattle.srv_edge.specs.declared.failed.SessionEnd.TheVariants.{Bye, Ended, CutShort, BadLength, ReadFault, WriteFault, TooLong}
use Rattle.srv_edge.specs.Finished.{AreReplies}
use Rattle.srv_edge.specs.Frames.{Frame, Message, Tail, at_end, cut_short, bad_length, at_bye, AreFrames, ReadsNoMore, session_text}
use Rattle.request_frames.specs.Requests.{Asked}
use Rattle.request_frames.specs.Talk.{IsTalk}

-- the stream stops between two frames or within one
abbrev pub IsOpen : Tail → Type 0
IsOpen tail = (tail ≡ at_end) ⊎ (tail ≡ cut_short)

-- How a session ends, by where the bytes stop that it read, how many they are, and how many they may be.
abbrev pub EndsAt : SessionEnd → Tail → ℕ → ℕ → Type 0
EndsAt Bye tail count limit = tail ≡ at_bye
EndsAt Ended tail count limit = (tail ≡ at_end) × (count < limit)
EndsAt CutShort tail count limit = (tail ≡ cut_short) × (count < limit)
EndsAt BadLength tail count limit = (version n : ℕ) × (tail ≡ bad_length version n)
EndsAt TooLong tail count limit = IsOpen tail × (count ≡ limit)
EndsAt ReadFault tail count limit = IsOpen tail × (count < limit)
EndsAt WriteFault tail count limit = ⊤

-- the input ended, between two frames or within one
abbrev pub IsInputEnd : SessionEnd → Type 0
IsInputEnd Bye = ⊥
IsInputEnd Ended = ⊤
IsInputEnd CutShort = ⊤
IsInputEnd BadLength = ⊥
IsInputEnd TooLong = ⊥
IsInputEnd ReadFault = ⊥
IsInputEnd WriteFault = ⊥

-- All of the text is sent, or at a fault of the sink a front of it that is not all.
abbrev pub Sends : SessionEnd → List ℕ → List ℕ → Type 0
Sends Bye sent text = sent ≡ text
Sends Ended sent text = sent ≡ text
Sends CutShort sent text = sent ≡ text
Sends BadLength sent text = sent ≡ text
Sends TooLong sent text = sent ≡ text
Sends ReadFault sent text = sent ≡ text
Sends WriteFault sent text = (more : List ℕ) × (text ≡ sent ++ more) × (0 < length more)

-- A session of a desk, or the rest of one from a frame of a version on: the whole frames of the bytes read are answered in
-- order, one reply each, and the replies are sent, with the refusal of a bad length behind them.
pub record IsSession {S : Type 0} (answers : S → Asked → Message → S → Type 0) (version limit : ℕ) (old new : S) (read sent : List ℕ) (end : SessionEnd) : Type 0 where
  pub frames : List Frame
  pub tail : Tail
  pub replies : List Frame
  pub stream : AreFrames version read frames tail
  pub no_more : ReadsNoMore read frames tail
  pub bound : length read ≤ limit
  pub talk : IsTalk answers old frames replies new
  pub replied : AreReplies frames replies
  pub sends : Sends end sent (session_text replies tail)
  pub ends : EndsAt end tail (length read) limit
