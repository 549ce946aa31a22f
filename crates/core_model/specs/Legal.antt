-- How the laws of legal histories are stated.
use Rattle.std.specs.Prelude.{◌≡◌, ◌≢◌, ℕ, Bool, false, not, List, ◌∷◌, ◌++◌, All, count_by, Option, Some}
use Rattle.record_table.specs.Table as records
use Rattle.names_table.specs.Names as strings
use Rattle.turnstile.specs.declared.history.Entry.{Entry}
use Rattle.turnstile.specs.declared.history.Basis.{Basis}
use Rattle.turnstile.specs.Histories.{caller}
use Rattle.call_journal.specs.declared.deed.Deed.{Deed}
use Rattle.call_journal.specs.declared.deed.Deed.TheVariants.{Began, Ended}
use Rattle.call_journal.specs.declared.deed.TableKind.{TableKind}
use Rattle.call_journal.specs.declared.deed.TableKind.TheVariants.{Types, Items, Names}
use Rattle.call_journal.specs.Words.{deed_of}
use Rattle.table_model.specs.Tables.{Tables}
use Rattle.core_model.specs.History.{IsLegal, IsStart, OpenCommit, standing}

-- what stands in the tables at an index or an offset
abbrev pub stands_at : Tables → TableKind → ℕ → Option (List ℕ)
stands_at x Types index = records.record_at x.types index
stands_at x Items index = records.record_at x.items index
stands_at x Names offset = strings.name_at x.names offset

-- an entry that neither begins nor ends a commit
pub record IsNoCommit (e : Entry) : Type 0 where
  pub begins_none : (n : ℕ) → deed_of e.word ≢ Some (Began n)
  pub ends_none : (n : ℕ) (ok : Bool) → deed_of e.word ≢ Some (Ended n ok)

-- none of these entries begins or ends a commit
abbrev pub AreCalls : List Entry → Type 0
AreCalls entries = All IsNoCommit entries

-- none of these entries ends a commit of this caller
abbrev pub EndsNoneOf : ℕ → List Entry → Type 0
EndsNoneOf c entries = All (λ e. caller e ≡ c → (n : ℕ) (ok : Bool) → deed_of e.word ≢ Some (Ended n ok)) entries

-- It holds of each legal history on a basis that a file can have.
abbrev pub EachLegal : (Basis → List Entry → Type 0) → Type 0
EachLegal P = (b : Basis) (h : List Entry) → IsStart b → IsLegal b h → P b h

-- the same while a commit is under way: of that one too
abbrev pub EachOpen : (Basis → List Entry → OpenCommit → Type 0) → Type 0
EachOpen P = EachLegal (λ b h. (k : OpenCommit) → (standing b h).under_way ≡ Some k → P b h k)

-- It holds of each commit of a legal history that its caller has not ended: of its number, of the entry that began it,
-- and of the entries behind that.
abbrev pub EachUnended : (Basis → List Entry → Entry → List Entry → ℕ → Type 0) → Type 0
EachUnended P =
    (b : Basis) (front between : List Entry) (began : Entry) (n : ℕ) →
    IsLegal b (front ++ began ∷ between) → deed_of began.word ≡ Some (Began n) → EndsNoneOf (caller began) between → P b front began between n

-- whether a deed is the end of a commit as faulted
abbrev pub is_faulted_end : Option Deed → Bool
is_faulted_end (Some (Ended number acknowledged)) = not acknowledged
is_faulted_end _ = false

-- how many commits these entries end as faulted
abbrev pub faulted_ends : List Entry → ℕ
faulted_ends entries = count_by (λ e. is_faulted_end (deed_of e.word)) entries
