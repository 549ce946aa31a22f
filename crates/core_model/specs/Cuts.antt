-- The cuts of commits, and those that a crash may leave.
use Rattle.std.specs.Prelude.{◌≡◌, ◌≢◌, ◌⊎◌, ℕ, true, List, ◌∷◌, ◌++◌, All, Some}
use Rattle.turnstile.specs.declared.history.Entry.{Entry}
use Rattle.turnstile.specs.declared.history.Basis.{Basis}
use Rattle.call_journal.specs.declared.deed.Deed.TheVariants.{Began, Ended}
use Rattle.call_journal.specs.Words.{deed_of}
use Rattle.table_model.specs.Cut.{Cut}
pub use Rattle.table_model.specs.Extends.{StartsWith, Extends}
use Rattle.core_model.specs.History.{after, age_of, opened_tables}

-- the cut that was opened
abbrev pub opened_cut : Basis → Cut
opened_cut b = record { number = age_of b; tables = opened_tables b }

-- the cut of a commit that begins behind these entries
abbrev pub cut_at : Basis → List Entry → ℕ → Cut
cut_at b before number = record { number = number; tables = after b before }

-- no commit is acknowledged in these entries
abbrev pub AcknowledgesNone : List Entry → Type 0
AcknowledgesNone entries = All (λ e. (m : ℕ) → deed_of e.word ≢ Some (Ended m true)) entries

-- no commit is acknowledged in these entries, but for the one of this number
abbrev pub AcknowledgesNoOther : ℕ → List Entry → Type 0
AcknowledgesNoOther number entries = All (λ e. (m : ℕ) → deed_of e.word ≡ Some (Ended m true) → m ≡ number) entries

-- the cut of a commit that began at an entry of these, with no other commit acknowledged behind that
pub record BeganAt (b : Basis) (entries : List Entry) (c : Cut) : Type 0 where
  pub before : List Entry
  pub began : Entry
  pub rest : List Entry
  pub there : entries ≡ before ++ began ∷ rest
  pub deed : deed_of began.word ≡ Some (Began c.number)
  pub tables : c.tables ≡ after b before
  pub newest : AcknowledgesNoOther c.number rest

-- A cut that is not older than the last acknowledged one: the cut that was opened, while no commit is acknowledged; or
-- that of a commit, while none behind it is.
abbrev pub IsAllowed : Basis → List Entry → Cut → Type 0
IsAllowed b entries c = ((c ≡ opened_cut b) × AcknowledgesNone entries) ⊎ BeganAt b entries c
