-- What calls make of the history of a hub.
use Rattle.std.specs.Prelude.{◌≡◌, ◌⊎◌, ◌≤◌, ◌<◌, ◌+◌, ℕ, List, [], ◌∷◌, ◌++◌, All, Option, None, Some, Result, Ok, Err, IsOk, drop, length}
use Rattle.leaf_grammar.specs.declared.grammar.Space.TheVariants as leaf
use Rattle.leaf_grammar.specs.Leaf.{leaf_of}
use Rattle.srv_edge.specs.Name.{IsName}
use Rattle.type_hash.specs.Record.{record_hash}
use Rattle.srv_edge.specs.declared.space.TheConstants as space
use Rattle.srv_edge.specs.declared.failed.Refusal.{Refusal}
use Rattle.srv_edge.specs.declared.failed.Refusal.TheVariants as refusal
use Rattle.call_journal.specs.declared.deed.Deed.{Deed}
use Rattle.call_journal.specs.declared.deed.Deed.TheVariants.{Added, NotGiven, Full, Began, Underway}
use Rattle.call_journal.specs.declared.deed.TableKind.{TableKind}
use Rattle.call_journal.specs.declared.deed.TableKind.TheVariants.{Types, Items, Names}
use Rattle.turnstile.specs.declared.history.Basis.{Basis}
use Rattle.turnstile.specs.declared.history.Entry.{Entry}
use Rattle.turnstile.specs.Histories.{caller}
use Rattle.table_model.specs.declared.call.Call.{Call}
use Rattle.table_model.specs.declared.call.Call.TheVariants.{GetType, GetItem, GetName}
use Rattle.table_model.specs.declared.call.Outcome.{Outcome}
use Rattle.table_model.specs.declared.call.Outcome.TheVariants as outcome
use Rattle.table_model.specs.Calls.{answer}
use Rattle.type_store.specs.Files.{IsFull, MayBegin}
use Rattle.core_model.specs.Entries.{entry_of, entry_of_call, limit_of_number, table_of_space}
use Rattle.core_model.specs.declared.commit.OpenCommit.{OpenCommit}
use Rattle.core_model.specs.History.{after, most_blocks, most_calls, standing}
use Rattle.core_model.specs.Legal.{IsNoCommit}
use Rattle.hub.specs.declared.places.TheConstants.{CALLS}
use Rattle.hub.specs.Bases.{shape_in}
use Rattle.hub.specs.Kept.{IsNoEnd}
use Rattle.hub.specs.Stories.{Story, taken}

-- The entry of this caller comes last.
pub record Files (old new : Story) (c : ℕ) (e : Entry) : Type 0 where
  pub basis : new.basis ≡ old.basis
  pub entries : new.entries ≡ old.entries ++ e ∷ []
  pub own : caller e ≡ c

-- ---- adds, gets and counts

-- what may be added to a table: bytes that were judged to be a leaf, or a name
abbrev pub IsAddable : TableKind → List ℕ → Type 0
IsAddable Types bytes = IsOk (leaf_of leaf.Types bytes)
IsAddable Items bytes = IsOk (leaf_of leaf.Items bytes)
IsAddable Names bytes = IsName bytes

-- the number is the hash by which a table of records finds these bytes; names are not found by it
abbrev pub IsHashFor : TableKind → List ℕ → ℕ → Type 0
IsHashFor Types bytes hash = hash ≡ record_hash bytes
IsHashFor Items bytes hash = hash ≡ record_hash bytes
IsHashFor Names bytes hash = Unit {0}

-- The deed of an add of so many bytes that was answered so. What the bytes alone refuse, and what wants memory, has none.
abbrev pub deed_of_add : TableKind → ℕ → Result ℕ Refusal → Option Deed
deed_of_add table size (Ok at) = Some (Added table at)
deed_of_add table size (Err (refusal.NotGiven space index)) = Some (NotGiven index (table_of_space space) table)
deed_of_add table size (Err (refusal.Full which needed)) = Some (Full size (limit_of_number which) table)
deed_of_add table size (Err (refusal.Malformed at what)) = None
deed_of_add table size (Err (refusal.Underway number)) = None
deed_of_add table size (Err (refusal.DiskFault number)) = None
deed_of_add table size (Err refusal.OutOfMemory) = None

-- the call that asks a table for what stands at an index or an offset
abbrev pub get_of : TableKind → ℕ → Call
get_of Types index = GetType index
get_of Items index = GetItem index
get_of Names offset = GetName offset

-- the number of a table in a refusal
abbrev pub space_of : TableKind → ℕ
space_of Types = space.TYPES
space_of Items = space.ITEMS
space_of Names = space.NAMES

-- A call is answered by the tables as they stand, and its entry comes last.
pub record Answers (old new : Story) (c : ℕ) (call : Call) (reply : Result Outcome Refusal) : Type 0 where
  pub right : reply ≡ answer (after old.basis old.entries) call
  pub entry : Entry
  pub word : entry_of_call c call reply ≡ Some entry
  pub plain : IsNoCommit entry
  pub filed : Files old new c entry
  pub room : taken old.basis old.entries + 1 ≤ most_calls old.basis

-- Why a call has no entry: all places are taken, or memory was wanted.
abbrev pub IsUnfiled : Basis → List Entry → Refusal → Type 0
IsUnfiled b h why = ((why ≡ refusal.Full CALLS (most_calls b)) × (most_calls b < taken b h + 1)) ⊎ (why ≡ refusal.OutOfMemory)

-- A get puts what it answers behind what the piece holds, and a refusal nothing.
abbrev pub Gives : Result Unit Refusal → List ℕ → List ℕ → Type 0
Gives (Ok done) old new = (bytes : List ℕ) × (new ≡ old ++ bytes)
Gives (Err why) old new = new ≡ old

-- the answer of a get that left the piece so
abbrev pub answer_of_get : Result Unit Refusal → List ℕ → List ℕ → Result Outcome Refusal
answer_of_get (Ok done) old new = Ok (outcome.Bytes (drop (length old) new))
answer_of_get (Err why) old new = Err why

-- ---- commits

-- the number that a commit takes next
abbrev pub next_number : Basis → List Entry → ℕ
next_number b h = (standing b h).number + 1

-- A commit begins: its entry comes last, and its end has its place too. No commit of its number has ended.
pub record IsBeginning (old new : Story) (c : ℕ) : Type 0 where
  pub idle : (standing old.basis old.entries).under_way ≡ None
  pub filed : Files old new c (entry_of c (Began (next_number old.basis old.entries)) [])
  pub room : taken old.basis old.entries + 2 ≤ most_calls old.basis
  pub may : MayBegin (shape_in old.basis) (standing old.basis old.entries).number (after old.basis old.entries)
  pub unended : All (IsNoEnd (next_number old.basis old.entries)) new.entries

-- A commit is refused, since another is under way.
pub record IsUnderWay (old new : Story) (c : ℕ) (why : Refusal) : Type 0 where
  pub commit : OpenCommit
  pub under_way : (standing old.basis old.entries).under_way ≡ Some commit
  pub is : why ≡ refusal.Underway commit.number
  pub filed : Files old new c (entry_of c (Underway commit.number) [])
  pub room : taken old.basis old.entries + 1 ≤ most_calls old.basis

-- how many places a commit needs that is asked for
abbrev pub needed_for : Option OpenCommit → ℕ
needed_for None = 2
needed_for (Some commit) = 1

-- a commit that none hinders passes a limit of numbers, of the directory or of the file
pub record HasNoPlace (b : Basis) (h : List Entry) (why : Refusal) : Type 0 where
  pub idle : (standing b h).under_way ≡ None
  pub which : ℕ
  pub needed : ℕ
  pub is : why ≡ refusal.Full which needed
  pub full : IsFull (most_blocks b) (shape_in b) (standing b h).number (after b h) which needed

-- Why a commit has no entry: all places are taken; memory was wanted; or it passes a limit.
abbrev pub IsUnbegun : Basis → List Entry → Refusal → Type 0
IsUnbegun b h why =
    ((why ≡ refusal.Full CALLS (most_calls b)) × (most_calls b < taken b h + needed_for (standing b h).under_way)) ⊎ ((why ≡ refusal.OutOfMemory) ⊎ HasNoPlace b h why)
