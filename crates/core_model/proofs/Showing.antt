-- The words of a legal history lead from the lists as opened to the lists behind it.
use Rattle.std.proofs.Common.{◌≡◌, ⊎_elim, ℕ, List, length, Option, Some, None, Ok, refl, sym, ap, ◌∙◌}
use Rattle.std.specs.Option.{unwrap_or}
use Rattle.leaf_grammar.specs.declared.grammar.Space.TheVariants as leaf
use Rattle.record_table.specs.Table as records
use Rattle.names_table.specs.Names as strings
use Rattle.turnstile.specs.declared.history.Entry.{Entry}
use Rattle.turnstile.specs.declared.history.Basis.{Basis}
use Rattle.turnstile.specs.Histories.{caller}
use Rattle.call_journal.specs.declared.deed.TableKind.{TableKind}
use Rattle.call_journal.specs.declared.deed.TableKind.TheVariants.{Types, Items, Names}
use Rattle.call_journal.specs.declared.deed.Limit.{Limit}
use Rattle.call_journal.specs.declared.deed.Limit.TheVariants as limit
use Rattle.call_journal.specs.declared.deed.Deed.{Deed}
use Rattle.call_journal.specs.declared.deed.Deed.TheVariants.{Added, Asked, Counted, NotGiven, Full, Began, Ended, Underway}
use Rattle.call_journal.specs.Words.{deed_of}
use Rattle.table_model.specs.Tables.{Tables, item_count, type_count}
use Rattle.core_model.specs.History.{DeedFits, IsAnswered, IsRefusedFull, IsLegal, Standing, after, standing}
use Rattle.core_model.specs.Replay.{DeedShows, HasLimit, LeadsTo, counts_of, first_or_next, lists_of, words_of}
use Rattle.core_model.proofs.Answered.{is_taken, name_is_taken}
use Rattle.table_model.proofs.Records as record_lemmas
use Rattle.table_model.proofs.Strings as string_lemmas

-- an answer is the index or offset of the first equal one, or the next
record_given : (t : records.Table) (r : List ℕ) (at : ℕ) → records.answer_to_add t r ≡ Ok at → at ≡ unwrap_or (records.index_of t r) (records.index_at (length t.records))
record_given t r at e = let next = records.index_at (length t.records) in
    ⊎_elim (λ o. sym (ap (λ i. unwrap_or i next) o)) (λ (l : record_lemmas.IsLast t r at). l.end ∙ sym (ap (λ i. unwrap_or i next) l.new)) (record_lemmas.add_cases t r at e)

name_given : (t : strings.Names) (name : List ℕ) (at : ℕ) → strings.answer_to_add t name ≡ Ok at → at ≡ unwrap_or (strings.offset_of t name) (strings.bytes_of t.names)
name_given t name at e = let next = strings.bytes_of t.names in
    ⊎_elim (λ o. sym (ap (λ i. unwrap_or i next) o)) (λ (l : string_lemmas.IsLast t name at). l.end ∙ sym (ap (λ i. unwrap_or i next) l.new)) (string_lemmas.add_cases t name at e)

answer_shows : (x : Tables) (table : TableKind) (at : ℕ) (bytes : List ℕ) → IsAnswered x table at bytes → at ≡ first_or_next x table bytes
answer_shows x Types at r a = record_given x.types r at (is_taken leaf.Types x.types (type_count x) (item_count x) r at a).add
answer_shows x Items at r a = record_given x.items r at (is_taken leaf.Items x.items (type_count x) (item_count x) r at a).add
answer_shows x Names at name a = name_given x.names name at (name_is_taken x.names name at a.1)

full_shows : (x : Tables) (table : TableKind) (l : Limit) (size : ℕ) → IsRefusedFull x table l size → HasLimit table l
full_shows x Types limit.Records size f = λ e. cc
full_shows x Types limit.Bytes size f = λ e. cc
full_shows x Types limit.Names size f = absurd f
full_shows x Items limit.Records size f = λ e. cc
full_shows x Items limit.Bytes size f = λ e. cc
full_shows x Items limit.Names size f = absurd f
full_shows x Names limit.Records size f = absurd f
full_shows x Names limit.Bytes size f = absurd f
full_shows x Names limit.Names size f = refl

deed_shows : (s : Standing) (c : ℕ) (d : Option Deed) (bytes : List ℕ) → DeedFits s c d bytes → DeedShows s c d bytes
deed_shows s c None bytes f = f
deed_shows s c (Some (Added table at)) bytes f = answer_shows s.tables table at bytes f
deed_shows s c (Some (Asked table at)) bytes f = f
deed_shows s c (Some Counted) bytes f = f
deed_shows s c (Some (NotGiven index space table)) bytes f = f
deed_shows s c (Some (Full size l table)) bytes f = (f.0, full_shows s.tables table l size f.1)
deed_shows s c (Some (Began number)) bytes f = f
deed_shows s c (Some (Ended number acknowledged)) bytes f = f
deed_shows s c (Some (Underway number)) bytes f = f

pub leads : (b : Basis) (h : List Entry) → IsLegal b h → LeadsTo (counts_of b) (words_of h) (lists_of (after b h))
leads b h l = record {
  basis = b;
  entries = h;
  counts = refl;
  has_words = refl;
  shown = record { shows = λ before e rest eq. deed_shows (standing b before) (caller e) (deed_of e.word) e.brought (l.fits before e rest eq).deed };
  lists = refl;
}
