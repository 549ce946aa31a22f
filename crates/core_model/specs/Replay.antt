-- Which journal words are those of a history that leads from the first parts of three final lists to the whole lists.
use Rattle.std.specs.Prelude.{◌≡◌, ◌≢◌, ◌<◌, ◌+◌, ◌⊎◌, ℕ, List, [], ◌∷◌, ◌++◌, length, take, Option, Some}
use Rattle.std.specs.Option.{unwrap_or}
use Rattle.record_table.specs.Table as records
use Rattle.names_table.specs.Names as strings
use Rattle.turnstile.specs.declared.history.Basis.{Basis}
use Rattle.turnstile.specs.declared.history.Entry.{Entry}
use Rattle.turnstile.specs.Histories.{caller}
use Rattle.call_journal.specs.declared.deed.TableKind.{TableKind}
use Rattle.call_journal.specs.declared.deed.TableKind.TheVariants.{Types, Items, Names}
use Rattle.call_journal.specs.declared.deed.Limit.{Limit}
use Rattle.call_journal.specs.declared.deed.Limit.TheVariants as limit
use Rattle.call_journal.specs.declared.deed.Deed.{Deed}
use Rattle.call_journal.specs.declared.deed.Deed.TheVariants.{Added, Full}
use Rattle.call_journal.specs.Words.{deed_of}
use Rattle.core_model.specs.declared.verdict.Verdict.{Verdict}
use Rattle.core_model.specs.declared.verdict.Verdict.TheVariants.{Legal, Illegal}
use Rattle.table_model.specs.Tables.{Tables, item_count, type_count}
use Rattle.core_model.specs.Cuts.{StartsWith}
use Rattle.core_model.specs.History.{DeedFits, Standing, after, standing}

-- three lists: types, items and names
pub record Lists : Type 0 where
  pub types : List (List ℕ)
  pub items : List (List ℕ)
  pub names : List (List ℕ)

-- the lists of tables
abbrev pub lists_of : Tables → Lists
lists_of x = record { types = x.types.records; items = x.items.records; names = x.names.names }

-- how many types, items and names there were when the file was opened
abbrev pub counts_of : Basis → ℕ × ℕ × ℕ
counts_of b = (length b.types, length b.items, length b.names)

-- the words of a history
abbrev pub words_of : List Entry → List ℕ
words_of [] = []
words_of (e ∷ entries) = e.word ∷ words_of entries

-- the index or offset of the first equal record or name, or else the next one
abbrev pub first_or_next : Tables → TableKind → List ℕ → ℕ
first_or_next x Types r = unwrap_or (records.index_of x.types r) (records.index_at (type_count x))
first_or_next x Items r = unwrap_or (records.index_of x.items r) (records.index_at (item_count x))
first_or_next x Names name = unwrap_or (strings.offset_of x.names name) (strings.bytes_of x.names.names)

-- A table has such a limit: records have those of their number and of their bytes, and names have the third.
abbrev pub HasLimit : TableKind → Limit → Type 0
HasLimit table limit.Records = table ≢ Names
HasLimit table limit.Bytes = table ≢ Names
HasLimit table limit.Names = table ≡ Names

-- What a word shows of its deed's fit where things stand so. An answered add shows its index or offset; but not that there
-- was room, nor that what it brought is a name, or a leaf whose fields name records. An add refused as full shows that its
-- table has such a limit; but not that it was met. Any other deed shows that it fits.
abbrev pub DeedShows : Standing → ℕ → Option Deed → List ℕ → Type 0
DeedShows s c (Some (Added table at)) bytes = at ≡ first_or_next s.tables table bytes
DeedShows s c (Some (Full size limit table)) bytes = (bytes ≡ []) × HasLimit table limit
DeedShows s c other bytes = DeedFits s c other bytes

-- Each word shows that it fits where it stands.
pub record IsShown (b : Basis) (entries : List Entry) : Type 0 where
  pub shows : (before : List Entry) (e : Entry) (rest : List Entry) → entries ≡ before ++ e ∷ rest → DeedShows (standing b before) (caller e) (deed_of e.word) e.brought

-- Some history has these words, from lists with so many types, items and names, and leads to the final lists.
pub record LeadsTo (start : ℕ × ℕ × ℕ) (words : List ℕ) (final : Lists) : Type 0 where
  pub basis : Basis
  pub entries : List Entry
  pub counts : counts_of basis ≡ start
  pub has_words : words_of entries ≡ words
  pub shown : IsShown basis entries
  pub lists : lists_of (after basis entries) ≡ final

-- lists that are the beginnings of others
pub record AreBeginnings (short long : Lists) : Type 0 where
  pub types : StartsWith short.types long.types
  pub items : StartsWith short.items long.items
  pub names : StartsWith short.names long.names

-- The words lead to beginnings of the final lists.
pub record LeadsInto (start : ℕ × ℕ × ℕ) (words : List ℕ) (final : Lists) : Type 0 where
  pub reached : Lists
  pub leads : LeadsTo start words reached
  pub beginnings : AreBeginnings reached final

-- At this place the words are wrong: with the next one they no longer lead into the final lists; or there is no next one,
-- and they do not lead to the whole lists.
abbrev pub IsWrongAt : ℕ × ℕ × ℕ → List ℕ → Lists → ℕ → Type 0
IsWrongAt start words final place =
    ((place < length words) × ¬ LeadsInto start (take (place + 1) words) final) ⊎ ((place ≡ length words) × ¬ LeadsTo start words final)

-- the least place at which they are wrong
pub record IsFirstWrong (start : ℕ × ℕ × ℕ) (words : List ℕ) (final : Lists) (place : ℕ) : Type 0 where
  pub wrong : IsWrongAt start words final place
  pub least : (earlier : ℕ) → earlier < place → ¬ IsWrongAt start words final earlier

-- what holds of the place, where the words are illegal
abbrev pub IfIllegal : Verdict → (ℕ → Type 0) → Type 0
IfIllegal Legal P = Unit {0}
IfIllegal (Illegal at) P = P at
