-- How a hub is made, and what it leaves.
use Rattle.std.specs.Prelude.{◌≡◌, ◌≢◌, ◌+◌, ℕ, List, [], All, length, Some, None}
use mathlib.Core.Option.{some}
use lib.ListN.{get_elem?}
use Rattle.atomic_table.specs.Seated.{TableId}
use Rattle.srv_edge.specs.declared.device.Device.{Ghosts}
use Rattle.srv_edge.specs.declared.failed.Limits.{Limits}
use Rattle.call_journal.specs.declared.deed.Deed.TheVariants.{Began}
use Rattle.call_journal.specs.Words.{deed_of}
use Rattle.turnstile.specs.declared.history.Entry.{Entry}
use Rattle.turnstile.specs.declared.view.Ended.{Ended}
use Rattle.turnstile.specs.Histories.{Begins, calls_by}
use Rattle.turnstile.specs.Passes.{IsIdleAt, PassView}
use Rattle.turnstile.specs.Views.{times}
use Rattle.table_model.specs.Bounds.{bounds_of}
use Rattle.type_store.specs.Files.{FileView}
use Rattle.type_store.specs.Opened.{IsOpened}
use Rattle.core_model.specs.Cuts.{IsAllowed}
use Rattle.core_model.specs.History.{IsLegal, IsStart, after, age_of, standing}
use Rattle.core_model.specs.Legal.{faulted_ends}
use Rattle.core_model.specs.Replay.{words_of}
use Rattle.hub.specs.declared.end.Ended as hub
use Rattle.hub.specs.Books.{BookView}
use Rattle.hub.specs.Kept.{IsFileOf, IsFrom, IsNoEnd, IsShelved}
use Rattle.hub.specs.Stories.{HubView, last_acknowledged}

-- A book as just opened or created, within these limits.
pub record IsNew {D : Type 0} (limits : Limits) (file : FileView D) (book : BookView D) : Type 0 where
  pub there : book.file ≡ Some file
  pub seen : List ℕ
  pub opened : IsOpened (bounds_of limits) seen file book.tables
  pub acked : book.acked ≡ file.last

-- the entry begins no commit of this number
abbrev pub IsNoBeginning : ℕ → Entry → Type 0
IsNoBeginning number e = deed_of e.word ≢ Some (Began number)

-- Each commit that begins among these calls ends among them: a number that does not end there does not begin there.
abbrev pub AreEnded : List Entry → Type 0
AreEnded calls = (number : ℕ) → All (IsNoEnd number) calls → All (IsNoBeginning number) calls

-- What is left of the value of a hub.
pub record IsLeftOf {D : Type 0} (g : Ghosts D) (v : HubView D) (left : hub.Ended D) : Type 0 where
  pub start_is : IsStart v.story.basis
  pub legal : IsLegal v.story.basis v.story.entries
  pub words : left.journal.words ≡ words_of v.story.entries
  pub tables : left.book.tables ≡ after v.story.basis v.story.entries
  pub acked : left.book.acked ≡ last_acknowledged (age_of v.story.basis) v.story.entries
  pub from : IsFrom v.story.basis left.age left.start.types left.start.items left.start.names
  pub file : left.book.file ≡ v.file
  pub shelved : IsShelved g v.story.basis v.story.entries v.file

-- What a hub leaves whose first pass had seen and done this. The history has the calls of the first pass and of those that it
-- retired, and no others.
pub record IsClosed {D : Type 0} (g : Ghosts D) (first : PassView) (left : hub.Ended D) : Type 0 where
  pub history : List Entry
  pub seen : Begins first.seen history
  pub legal : IsLegal first.basis history
  pub mine : calls_by 0 history ≡ first.mine
  pub ended : (k : ℕ) (e : Ended) → get_elem? first.ended k ≡ some e → calls_by e.number history ≡ e.calls
  pub others : (n : ℕ) → n ≢ 0 → times n first.ended ≡ 0 → calls_by n history ≡ []
  pub words : left.journal.words ≡ words_of history
  pub tables : left.book.tables ≡ after first.basis history
  pub acked : left.book.acked ≡ last_acknowledged (age_of first.basis) history
  pub from : IsFrom first.basis left.age left.start.types left.start.items left.start.names
  pub idle : (standing first.basis history).under_way ≡ None
  pub file : FileView D
  pub there : left.book.file ≡ Some file
  pub holds : IsFileOf g first.basis (IsAllowed first.basis history) (after first.basis history) (standing first.basis history).number (faulted_ends history) file

-- A pass that is in no turn of this hub, each of whose commits has ended.
abbrev pub IsFree : TableId → PassView → Type 0
IsFree hub p = IsIdleAt hub p × AreEnded p.mine

-- The first pass of a hub with so many others beside it. Each commit of those that it retired has ended.
pub record IsFirst (others : ℕ) (p : PassView) : Type 0 where
  pub number : p.number ≡ 0
  pub made : length p.ended + others + 1 ≡ p.made
  pub ended : (k : ℕ) (e : Ended) → get_elem? p.ended k ≡ some e → AreEnded e.calls
