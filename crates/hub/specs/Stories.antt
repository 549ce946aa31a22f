-- The history of a hub, as its journal and its tables tell it.
use Rattle.std.specs.Prelude.{ℕ, ◌+◌, List, [], ◌∷◌, length, map, true, false, Option, None, Some}
use Rattle.std.specs.Option.{unwrap_or}
use Rattle.call_journal.specs.declared.deed.Deed.{Deed}
use Rattle.call_journal.specs.declared.deed.Deed.TheVariants.{Added, Asked, Counted, NotGiven, Full, Began, Ended, Underway}
use Rattle.call_journal.specs.Words.{deed_of}
use Rattle.turnstile.specs.declared.history.Basis.{Basis}
use Rattle.turnstile.specs.declared.history.Entry.{Entry}
use Rattle.table_model.specs.Tables.{Tables}
use Rattle.type_store.specs.Files.{FileView}
use Rattle.core_model.specs.declared.commit.OpenCommit.{OpenCommit}
use Rattle.core_model.specs.History.{standing}
use Rattle.core_model.specs.Legal.{stands_at}

-- a basis, and the entries since
pub record Story : Type 0 where
  pub basis : Basis
  pub entries : List Entry

-- the value of a hub: its story, and its file while no commit is under way
pub record HubView (D : Type 0) : Type 0 where
  pub story : Story
  pub file : Option (FileView D)

-- What a deed brought, read off the tables: an answered add brought what stands at the index or offset that was answered.
abbrev pub brought_by : Tables → Option Deed → List ℕ
brought_by x (Some (Added table at)) = unwrap_or (stands_at x table at) []
brought_by x (Some (Asked table at)) = []
brought_by x (Some Counted) = []
brought_by x (Some (NotGiven index space table)) = []
brought_by x (Some (Full size limit table)) = []
brought_by x (Some (Began number)) = []
brought_by x (Some (Ended number acknowledged)) = []
brought_by x (Some (Underway number)) = []
brought_by x None = []

abbrev pub entry_read : Tables → ℕ → Entry
entry_read x word = record { word = word; brought = brought_by x (deed_of word) }

-- the entries of a journal, with the bytes that they brought
abbrev pub entries_in : Tables → List ℕ → List Entry
entries_in x words = map (entry_read x) words

-- ---- numbers of a history

abbrev pub one_if_open : Option OpenCommit → ℕ
one_if_open None = 0
one_if_open (Some commit) = 1

-- the places that are taken, one of them for the end of a commit that is under way
abbrev pub taken : Basis → List Entry → ℕ
taken b h = length h + one_if_open (standing b h).under_way

-- the number behind an entry: that of the commit which it acknowledges, or else the same
abbrev pub acknowledged_by : ℕ → Option Deed → ℕ
acknowledged_by n (Some (Ended number true)) = number
acknowledged_by n (Some (Ended number false)) = n
acknowledged_by n (Some (Added table at)) = n
acknowledged_by n (Some (Asked table at)) = n
acknowledged_by n (Some Counted) = n
acknowledged_by n (Some (NotGiven index space table)) = n
acknowledged_by n (Some (Full size limit table)) = n
acknowledged_by n (Some (Began number)) = n
acknowledged_by n (Some (Underway number)) = n
acknowledged_by n None = n

-- the number of the last commit that is acknowledged in these entries, or n
abbrev pub last_acknowledged : ℕ → List Entry → ℕ
last_acknowledged n [] = n
last_acknowledged n (e ∷ entries) = last_acknowledged (acknowledged_by n (deed_of e.word)) entries
