-- How the laws are stated.
use Rattle.std.specs.Prelude.{◌≡◌, ◌<◌, ◌+◌, ◌-◌, ◌^◌, ℕ, zero, suc, Bool, true, false, List, [], ◌∷◌, ◌++◌, Some, None}
use Rattle.std.specs.Option.{option_to_list}
use Rattle.turnstile.specs.declared.history.Entry.{Entry}
use Rattle.turnstile.specs.declared.history.Basis.{Basis}
use Rattle.call_journal.specs.declared.deed.Deed.{Deed}
use Rattle.call_journal.specs.declared.deed.Deed.TheVariants.{Added, Began, Ended}
use Rattle.call_journal.specs.declared.deed.TableKind.{TableKind}
use Rattle.call_journal.specs.declared.deed.TableKind.TheVariants.{Types, Items, Names}
use Rattle.call_journal.specs.Words.{deed_of}
use Rattle.table_model.specs.declared.call.Call.{Call}
use Rattle.table_model.specs.declared.call.Call.TheVariants.{AddType, AddItem, AddName}
use Rattle.table_model.specs.Calls.{answer, is_call}
use Rattle.core_model.specs.Cuts.{cut_at}
use Rattle.table_model.specs.Cut.{Cut}
use Rattle.core_model.specs.Entries.{entry_of, entry_of_call}
use Rattle.core_model.specs.Events.{Event, begins, calls, calls_device, ends, reopens}
use Rattle.core_model.specs.Files.{Commit, DeviceCall, File, Phase, doubt, resolving, resolving_sync, settled, switching, switching_sync, sync, write, write_super, writing}
use Rattle.core_model.specs.History.{IsLegal, IsStart}
use Rattle.core_model.specs.Passes.{is_pass}
use Rattle.core_model.specs.World.{World, number_now, step, tables_now, world_after}

-- It holds of the world after any events, from any file that can be opened.
abbrev pub Always : (World → Type 0) → Type 0
Always P = (b : Basis) (events : List Event) → IsStart b → P (world_after b events)

-- the entry of a call that is answered by the tables as they stand, if it has one
abbrev pub entries_of : World → ℕ → Call → List Entry
entries_of w c call = option_to_list (entry_of_call c call (answer (tables_now w) call))

-- it always holds of a call that a pass may make, while no crash has come
abbrev pub EachCall : (World → ℕ → Call → Type 0) → Type 0
EachCall P = Always (λ w. (c : ℕ) (call : Call) → w.crash ≡ None → is_pass c ≡ true → is_call call ≡ true → P w c call)

-- A pass's call always leaves the entry of this deed, whatever it is answered, while no crash has come.
abbrev pub IsKeptAs : Call → Deed → Type 0
IsKeptAs call deed =
    Always (λ w. (c : ℕ) → w.crash ≡ None → is_pass c ≡ true → is_call call ≡ true → (step w (calls c call)).history ≡ w.history ++ entry_of c deed [] ∷ [])

-- it always holds of an event and a pass, while no crash has come
abbrev pub EachEvent : (World → Event → ℕ → Type 0) → Type 0
EachEvent P = Always (λ w. (event : Event) (c : ℕ) → w.crash ≡ None → P w event c)

-- it always holds of the commit under way
abbrev pub EachCommit : (World → Commit → Type 0) → Type 0
EachCommit P = Always (λ w. (k : Commit) → w.commit ≡ Some k → P w k)

-- it always holds of the commit under way, while no crash has come
abbrev pub EachUnderWay : (World → Commit → Type 0) → Type 0
EachUnderWay P = EachCommit (λ w k. w.crash ≡ None → P w k)

-- the cut of a commit that begins now
abbrev pub next_cut : World → Cut
next_cut w = cut_at w.basis w.history (number_now w + 1)

-- It always holds of a pass that begins a commit and of its cut, while none is under way, a number is left, and no crash
-- has come.
abbrev pub EachBeginning : (World → ℕ → Cut → Type 0) → Type 0
EachBeginning P = Always (λ w. (c : ℕ) → w.crash ≡ None → is_pass c ≡ true → w.commit ≡ None → number_now w < 2 ^ 32 - 1 → P w c (next_cut w))

-- whether a phase has this call of the device
abbrev pub has_call : Phase → DeviceCall → Bool
has_call resolving write_super = true
has_call resolving_sync sync = true
has_call writing write = true
has_call writing sync = true
has_call switching write_super = true
has_call switching_sync sync = true
has_call _ _ = false

-- the calls that settle a file in doubt
abbrev pub settling_calls : File → List Event
settling_calls (settled x) = []
settling_calls (doubt x p) = calls_device write_super true ∷ calls_device sync true ∷ []

-- so many blocks written
abbrev pub writes : ℕ → List Event
writes zero = []
writes (suc blocks) = calls_device write true ∷ writes blocks

-- a pass's commit onto a file, of so many blocks, that meets no failure, with nothing between its events
abbrev pub smooth_commit : File → ℕ → ℕ → List Event
smooth_commit file blocks c =
    begins c ∷ (settling_calls file ++ (writes blocks ++ calls_device sync true ∷ calls_device write_super true ∷ calls_device sync true ∷ ends c ∷ []))

-- it always holds of what a crash left, and of the world once the file is opened again
abbrev pub AfterCrash : (World → Cut → World → Type 0) → Type 0
AfterCrash P = Always (λ w. (c : Cut) (others : List ℕ) → w.crash ≡ Some c → P w c (step w (reopens others)))

-- an add of a record or of a name to its table
abbrev pub add_to : TableKind → List ℕ → Call
add_to Types r = AddType r
add_to Items r = AddItem r
add_to Names name = AddName name

-- It holds of each add that was answered in a legal history: of what stands before its entry, of the entry, of the
-- table and of the index or offset.
abbrev pub EachAdd : (Basis → List Entry → Entry → TableKind → ℕ → Type 0) → Type 0
EachAdd P =
    (b : Basis) (before rest : List Entry) (e : Entry) (table : TableKind) (at : ℕ) →
    IsLegal b (before ++ e ∷ rest) → deed_of e.word ≡ Some (Added table at) → P b before e table at

-- a commit of this number began behind the entries `front` of a history, and was acknowledged
pub record IsAcknowledged (history front : List Entry) (n : ℕ) : Type 0 where
  pub began : Entry
  pub between : List Entry
  pub ended : Entry
  pub rest : List Entry
  pub there : history ≡ front ++ began ∷ (between ++ ended ∷ rest)
  pub begins : deed_of began.word ≡ Some (Began n)
  pub ends : deed_of ended.word ≡ Some (Ended n true)

-- It holds of each acknowledged commit of a legal history: of the history, of what stands before the commit's beginning,
-- of its number and of what stands behind its end.
abbrev pub EachAcknowledged : (Basis → List Entry → List Entry → ℕ → List Entry → Type 0) → Type 0
EachAcknowledged P =
    (b : Basis) (history front : List Entry) (n : ℕ) (k : IsAcknowledged history front n) →
    IsStart b → IsLegal b history → P b history front n k.rest
