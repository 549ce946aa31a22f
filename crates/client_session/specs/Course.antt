-- What a session may answer over tables and their file, as its requests and replies so far tell.
use Rattle.std.specs.Prelude.{◌≡◌, ◌<◌, ◌⊎◌, ◌+◌, ◌-◌, ◌^◌, ℕ, List, [], ◌∷◌, ◌++◌}
use Rattle.srv_edge.specs.declared.kind.TheConstants.{COMMIT, REPLY}
use Rattle.srv_edge.specs.declared.failed.Refusal.TheVariants.{DiskFault, Full, OutOfMemory, Underway}
use Rattle.srv_edge.specs.Frames.{Message, word_bytes}
use Rattle.request_frames.specs.Refusals.{refusal_message}
use Rattle.request_frames.specs.Requests.{Asked, commit}
use Rattle.table_model.specs.Cut.{Cut}
use Rattle.type_store.specs.Files.{IsFull, MayBegin, cut_of}
use Rattle.type_store.specs.Shape.{Shape}
use Rattle.client_session.specs.Tables.{AnswersByTables, Tables}

-- How a session stands behind its requests and replies: the last number that a commit took; the tables; the cuts that a crash
-- may leave, which are the last acknowledged one and those of the commits that began behind it; and all cuts, of which the
-- opened one is the first.
pub record Course : Type 0 where
  pub number : ℕ
  pub tables : Tables
  pub allowed : List Cut
  pub begun : List Cut

-- a session that starts over a file that holds this
abbrev pub course_from : Cut → Course
course_from cut = record { number = cut.number; tables = cut.tables; allowed = cut ∷ []; begun = cut ∷ [] }

-- the cut of a commit that begins now
abbrev pub next_cut : Course → Cut
next_cut c = cut_of (c.number + 1) c.tables

-- behind a commit that was acknowledged: a crash leaves nothing else
abbrev pub acknowledged : Course → Course
acknowledged c = record c { number = c.number + 1; allowed = next_cut c ∷ []; begun = c.begun ++ next_cut c ∷ [] }

-- behind one in which the device failed: its number is used up, and a crash may leave it
abbrev pub faulted : Course → Course
faulted c = record c { number = c.number + 1; allowed = c.allowed ++ next_cut c ∷ []; begun = c.begun ++ next_cut c ∷ [] }

-- the reply to a commit that was acknowledged
abbrev pub committed : ℕ → Message
committed number = record { kind = COMMIT + REPLY; body = word_bytes number }

-- A commit is acknowledged, or the device fails in it, where it passes no limit that can be told beforehand; or it is refused
-- as full; or it wants memory. The last two change nothing.
abbrev pub AnswersCommit : ℕ → Shape → Course → Message → Course → Type 0
AnswersCommit most_blocks shape old reply new =
    (MayBegin shape old.number old.tables × (reply ≡ committed (old.number + 1)) × (new ≡ acknowledged old))
    ⊎ ((MayBegin shape old.number old.tables × (reply ≡ refusal_message (DiskFault (old.number + 1))) × (new ≡ faulted old))
    ⊎ (((which needed : ℕ) × IsFull most_blocks shape old.number old.tables which needed × (reply ≡ refusal_message (Full which needed)) × (new ≡ old))
    ⊎ ((old.number < 2 ^ 32 - 1) × (reply ≡ refusal_message OutOfMemory) × (new ≡ old))))

-- a request that the tables answer: the cuts stay
abbrev pub AnswersCallOn : Course → Asked → Message → Course → Type 0
AnswersCallOn old a reply new = (tables : Tables) × AnswersByTables old.tables a reply tables × (new ≡ record old { tables = tables })

-- What is answered to a request in a session over a file that was opened in this shape and may have so many blocks.
abbrev pub Answers : ℕ → Shape → Course → Asked → Message → Course → Type 0
Answers most_blocks shape old a reply new = AnswersCallOn old a reply new ⊎ ((a ≡ commit) × AnswersCommit most_blocks shape old reply new)

-- a refusal for what others did: a commit of theirs is under way, or a server has had all its calls, which is the fourth limit
abbrev pub IsForOthers : Message → Type 0
IsForOthers reply = (number : ℕ) × ((reply ≡ refusal_message (Underway number)) ⊎ (reply ≡ refusal_message (Full 4 number)))
