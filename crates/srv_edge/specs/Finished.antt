-- Links as they come from a door, and as they go back to it.
use Rattle.std.specs.Prelude.{◌≡◌, ◌<◌, ◌+◌, ◌^◌, ◌⊎◌, ⊤, ℕ, Bool, IsTrue, List, [], ◌∷◌, ◌++◌, length}
use Rattle.srv_edge.specs.declared.failed.SessionEnd.{SessionEnd}
use Rattle.srv_edge.specs.declared.failed.SessionEnd.TheVariants.{Bye, Ended, CutShort, BadLength, ReadFault, WriteFault, TooLong}
use Rattle.srv_edge.specs.declared.kind.TheConstants as kinds
use Rattle.srv_edge.specs.declared.limit.TheConstants.{SESSION_BYTES}
use Rattle.srv_edge.specs.declared.sink.Sink as sink
use Rattle.srv_edge.specs.declared.source.Source as source
use Rattle.srv_edge.specs.Frames.{AreFrames, Frame, Message, Tail, at_end, cut_short, bad_length, at_bye, length_of, session_text}

-- What is seen of a link: what its source has given and what is left in it, what its sink has taken, how often each has
-- failed, and whether each tells its bytes.
pub record Seen : Type 0 where
  pub given_told : Bool
  pub given : List ℕ
  pub left : List ℕ
  pub source_faults : ℕ
  pub taken_told : Bool
  pub taken : List ℕ
  pub sink_faults : ℕ

-- this of a link, by its meanings as a source and as a sink
abbrev pub seen_of : {L : Type 0} → source.Ghosts L → sink.Ghosts L → L → Seen
seen_of s k l = record {
  given_told = s.tells;
  given = s.given l;
  left = s.left l;
  source_faults = s.faults l;
  taken_told = k.tells;
  taken = k.taken l;
  sink_faults = k.faults l;
}

-- Nothing was given or taken, as far as the link tells, and nothing has failed.
pub record IsFresh (l : Seen) : Type 0 where
  pub given : IsTrue l.given_told → l.given ≡ []
  pub taken : IsTrue l.taken_told → l.taken ≡ []
  pub source : l.source_faults ≡ 0
  pub sink : l.sink_faults ≡ 0

-- a reply has the kind that its request asks for, or it is a refusal
abbrev pub IsReplyTo : Message → Message → Type 0
IsReplyTo request reply = (reply.kind ≡ request.kind + kinds.REPLY) ⊎ (reply.kind ≡ kinds.REFUSED)

-- A reply is a frame of the version of its request and with its tag, of the kind that it asks for or a refusal.
pub record IsReply (request reply : Frame) : Type 0 where
  pub same_head : reply.head ≡ request.head
  pub of_kind : IsReplyTo request.message reply.message
  pub fits : length_of reply < 2 ^ 32

-- one reply to each frame, in order
abbrev pub AreReplies : List Frame → List Frame → Type 0
AreReplies [] [] = ⊤
AreReplies (f ∷ frames) (r ∷ replies) = IsReply f r × AreReplies frames replies
AreReplies [] (r ∷ replies) = ⊥
AreReplies (f ∷ frames) [] = ⊥

-- Where the frames of the bytes that were given stop, for each end, and whether anything is left behind them.
abbrev pub StopsFor : SessionEnd → Tail → List ℕ → List ℕ → Type 0
StopsFor Bye tail given left = tail ≡ at_bye
StopsFor Ended tail given left = (tail ≡ at_end) × (left ≡ [])
StopsFor CutShort tail given left = (tail ≡ cut_short) × (left ≡ [])
StopsFor BadLength tail given left = (version n : ℕ) × (tail ≡ bad_length version n)
StopsFor TooLong tail given left = length given ≡ SESSION_BYTES
StopsFor ReadFault tail given left = ⊤
StopsFor WriteFault tail given left = ⊤

-- the source or the sink has failed, where the end says so
abbrev pub HasFailed : SessionEnd → ℕ → ℕ → Type 0
HasFailed Bye source sink = ⊤
HasFailed Ended source sink = ⊤
HasFailed CutShort source sink = ⊤
HasFailed BadLength source sink = ⊤
HasFailed TooLong source sink = ⊤
HasFailed ReadFault source sink = 0 < source
HasFailed WriteFault source sink = 0 < sink

-- All of the text was taken, or at a fault of the sink a front of it.
abbrev pub IsSent : SessionEnd → List ℕ → List ℕ → Type 0
IsSent Bye taken text = taken ≡ text
IsSent Ended taken text = taken ≡ text
IsSent CutShort taken text = taken ≡ text
IsSent BadLength taken text = taken ≡ text
IsSent TooLong taken text = taken ≡ text
IsSent ReadFault taken text = taken ≡ text
IsSent WriteFault taken text = (more : List ℕ) × (text ≡ taken ++ more)

-- The whole frames of what was given have one reply each, in order, and behind them a bad length has its refusal.
pub record IsServed (l : Seen) (end : SessionEnd) : Type 0 where
  pub frames : List Frame
  pub tail : Tail
  pub stream : AreFrames 1 l.given frames tail
  pub stops : StopsFor end tail l.given l.left
  pub replies : IsTrue l.taken_told → (replies : List Frame) × AreReplies frames replies × IsSent end l.taken (session_text replies tail)

-- The link was served to this end.
pub record IsFinished (l : Seen) (end : SessionEnd) : Type 0 where
  pub failed : HasFailed end l.source_faults l.sink_faults
  pub served : IsTrue l.given_told → IsServed l end

-- All that a link tells stays.
pub record TellsSame {L : Type 0} (s : source.Ghosts L) (k : sink.Ghosts L) (old new : L) : Type 0 where
  pub seen : seen_of s k new ≡ seen_of s k old
  pub source_beside : s.beside new ≡ s.beside old
  pub sink_beside : k.beside new ≡ k.beside old
  pub loans : s.loans new ≡ s.loans old

-- A link that was fresh is finished, served to this end.
abbrev pub FinishesFresh : {L : Type 0} → source.Ghosts L → sink.Ghosts L → L → SessionEnd → L → Type 0
FinishesFresh s k old end new = IsFresh (seen_of s k old) → IsFinished (seen_of s k new) end
