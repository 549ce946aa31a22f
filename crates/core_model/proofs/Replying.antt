-- The replies of a legal history.
use Rattle.std.proofs.Common.{◌≡◌, ◌≢◌, ℕ, List, [], ◌∷◌, ◌++◌, Option, Some, None, Ok, refl, sym, ap, ◌∙◌, subst}
use Rattle.std.specs.Option.{option_map, unwrap_or}
use Rattle.leaf_grammar.specs.declared.grammar.Space.TheVariants as leaf
use Rattle.record_table.specs.Table as records
use Rattle.names_table.specs.Names as strings
use Rattle.turnstile.specs.declared.history.Entry.{Entry}
use Rattle.turnstile.specs.declared.history.Basis.{Basis}
use Rattle.turnstile.specs.Histories.{caller}
use Rattle.call_journal.specs.declared.deed.TableKind.{TableKind}
use Rattle.call_journal.specs.declared.deed.TableKind.TheVariants.{Types, Items, Names}
use Rattle.call_journal.specs.declared.deed.Deed.{Deed}
use Rattle.call_journal.specs.declared.deed.Deed.TheVariants.{Added, Asked, Counted, NotGiven, Full, Began, Ended, Underway}
use Rattle.call_journal.specs.Words.{deed_of}
use Rattle.table_model.specs.Tables.{Tables, item_count, type_count}
use Rattle.table_model.specs.Calls.{tables_after}
use Rattle.core_model.specs.History.{DeedFits, IsAnswered, IsLegal, Standing, after, after_deed, after_entries, after_entry, standing, with_added}
use Rattle.core_model.specs.Law.{add_to}
use Rattle.core_model.specs.Legal.{stands_at}
use Rattle.core_model.proofs.Answered.{added_items, added_names, added_types, is_taken, name_is_taken, table_of_taken}
use Rattle.core_model.proofs.Growing.{legal_before, standing_more, standing_on}
use Rattle.table_model.proofs.Records as record_lemmas
use Rattle.table_model.proofs.Strings as string_lemmas

-- what an entry of a legal history says where it stands
pub fits_there : (b : Basis) (before rest : List Entry) (e : Entry) (deed : Option Deed) → IsLegal b (before ++ e ∷ rest) → deed_of e.word ≡ deed → DeedFits (standing b before) (caller e) deed e.brought
fits_there b before rest e deed l is = subst (λ d. DeedFits (standing b before) (caller e) d e.brought) is (l.fits before e rest refl).deed

-- the tables behind an answered add are those that the call leaves

added_tables : (x : Tables) (table : TableKind) (at : ℕ) (bytes : List ℕ) → IsAnswered x table at bytes → with_added x table at bytes ≡ tables_after x (add_to table bytes)
added_tables x Types at r a = added_types x at r ∙ ap (λ (t : records.Table). record x { types = t }) (sym (table_of_taken leaf.Types x.types (type_count x) (item_count x) r at (is_taken leaf.Types x.types (type_count x) (item_count x) r at a)))
added_tables x Items at r a = added_items x at r ∙ ap (λ (t : records.Table). record x { items = t }) (sym (table_of_taken leaf.Items x.items (type_count x) (item_count x) r at (is_taken leaf.Items x.items (type_count x) (item_count x) r at a)))
added_tables x Names at name a = added_names x at name ∙ ap (λ (t : strings.Names). record x { names = t }) (sym (string_lemmas.after_answered x.names name at (name_is_taken x.names name at a.1)))

-- the tables behind one entry more, by its deed
tables_by : (b : Basis) (before : List Entry) (e : Entry) (deed : Option Deed) → deed_of e.word ≡ deed → after b (before ++ e ∷ []) ≡ (after_deed (standing b before) (caller e) deed e.brought).tables
tables_by b before e deed is = ap (λ (s : Standing). s.tables) (standing_more b before e) ∙ ap (λ d. (after_deed (standing b before) (caller e) d e.brought).tables) is

pub tables_of_reply : (b : Basis) (before rest : List Entry) (e : Entry) (table : TableKind) (at : ℕ) → IsLegal b (before ++ e ∷ rest) → deed_of e.word ≡ Some (Added table at) → after b (before ++ e ∷ []) ≡ tables_after (after b before) (add_to table e.brought)
tables_of_reply b before rest e table at l is = tables_by b before e (Some (Added table at)) is ∙ added_tables (after b before) table at e.brought (fits_there b before rest e (Some (Added table at)) l is)

other_deed : (s : Standing) (c : ℕ) (deed : Option Deed) (bytes : List ℕ) → ((table : TableKind) (at : ℕ) → deed ≢ Some (Added table at)) → (after_deed s c deed bytes).tables ≡ s.tables
other_deed s c None bytes other = refl
other_deed s c (Some (Added table at)) bytes other = absurd (other table at refl)
other_deed s c (Some (Asked table at)) bytes other = refl
other_deed s c (Some Counted) bytes other = refl
other_deed s c (Some (NotGiven index space table)) bytes other = refl
other_deed s c (Some (Full size limit table)) bytes other = refl
other_deed s c (Some (Began number)) bytes other = refl
other_deed s c (Some (Ended number acknowledged)) bytes other = refl
other_deed s c (Some (Underway number)) bytes other = refl

pub tables_of_other : (b : Basis) (before : List Entry) (e : Entry) → ((table : TableKind) (at : ℕ) → deed_of e.word ≢ Some (Added table at)) → after b (before ++ e ∷ []) ≡ after b before
tables_of_other b before e other = tables_by b before e (deed_of e.word) refl ∙ other_deed (standing b before) (caller e) (deed_of e.word) e.brought other

-- one index

-- a table gives these bytes this index or offset
abbrev Gives : Tables → TableKind → List ℕ → ℕ → Type 0
Gives x Types r at = records.index_of x.types r ≡ Some at
Gives x Items r at = records.index_of x.items r ≡ Some at
Gives x Names name at = strings.offset_of x.names name ≡ Some at

gives_added : (x : Tables) (table : TableKind) (at : ℕ) (bytes : List ℕ) → IsAnswered x table at bytes → Gives (with_added x table at bytes) table bytes at
gives_added x Types at r a = rw (added_types x at r) (record_lemmas.index_after x.types r at (is_taken leaf.Types x.types (type_count x) (item_count x) r at a).add)
gives_added x Items at r a = rw (added_items x at r) (record_lemmas.index_after x.items r at (is_taken leaf.Items x.items (type_count x) (item_count x) r at a).add)
gives_added x Names at name a = rw (added_names x at name) (string_lemmas.offset_after x.names name at (name_is_taken x.names name at a.1))

-- it gives it still when bytes were added to any table
gives_still : (x : Tables) (table other : TableKind) (at place : ℕ) (bytes more : List ℕ) → Gives x table bytes at → Gives (with_added x other place more) table bytes at
gives_still x Types Types at place r more g = rw (added_types x place more) (record_lemmas.index_stays x.types more r at place g)
gives_still x Types Items at place r more g = rw (added_items x place more) g
gives_still x Types Names at place r more g = rw (added_names x place more) g
gives_still x Items Types at place r more g = rw (added_types x place more) g
gives_still x Items Items at place r more g = rw (added_items x place more) (record_lemmas.index_stays x.items more r at place g)
gives_still x Items Names at place r more g = rw (added_names x place more) g
gives_still x Names Types at place r more g = rw (added_types x place more) g
gives_still x Names Items at place r more g = rw (added_items x place more) g
gives_still x Names Names at place r more g = rw (added_names x place more) (string_lemmas.offset_kept x.names more r at place g)

gives_later : (s : Standing) (c : ℕ) (deed : Option Deed) (more : List ℕ) (table : TableKind) (bytes : List ℕ) (at : ℕ) → Gives s.tables table bytes at → Gives (after_deed s c deed more).tables table bytes at
gives_later s c None more table bytes at g = g
gives_later s c (Some (Added other place)) more table bytes at g = gives_still s.tables table other at place bytes more g
gives_later s c (Some (Asked other place)) more table bytes at g = g
gives_later s c (Some Counted) more table bytes at g = g
gives_later s c (Some (NotGiven index space other)) more table bytes at g = g
gives_later s c (Some (Full size limit other)) more table bytes at g = g
gives_later s c (Some (Began number)) more table bytes at g = g
gives_later s c (Some (Ended number acknowledged)) more table bytes at g = g
gives_later s c (Some (Underway number)) more table bytes at g = g

gives_behind : (s : Standing) (entries : List Entry) (table : TableKind) (bytes : List ℕ) (at : ℕ) → Gives s.tables table bytes at → Gives (after_entries s entries).tables table bytes at
gives_behind s [] table bytes at g = g
gives_behind s (e ∷ entries) table bytes at g = gives_behind (after_entry s e) entries table bytes at (gives_later s (caller e) (deed_of e.word) e.brought table bytes at g)

-- what a table gives is what it answers
record_given : (t : records.Table) (r : List ℕ) (at other : ℕ) → records.index_of t r ≡ Some at → records.answer_to_add t r ≡ Ok other → at ≡ other
record_given t r at other g a = let e : Ok at ≡ Ok other = sym (ap (λ o. unwrap_or (option_map Ok o) (records.answer_to_new t r)) g) ∙ a in cc

name_given : (t : strings.Names) (name : List ℕ) (at other : ℕ) → strings.offset_of t name ≡ Some at → strings.answer_to_add t name ≡ Ok other → at ≡ other
name_given t name at other g a = let e : Ok at ≡ Ok other = sym (ap (λ o. unwrap_or (option_map Ok o) (strings.answer_to_new t name)) g) ∙ a in cc

given_is_answered : (x : Tables) (table : TableKind) (bytes : List ℕ) (at other : ℕ) → Gives x table bytes at → IsAnswered x table other bytes → at ≡ other
given_is_answered x Types r at other g a = record_given x.types r at other g (is_taken leaf.Types x.types (type_count x) (item_count x) r other a).add
given_is_answered x Items r at other g a = record_given x.items r at other g (is_taken leaf.Items x.items (type_count x) (item_count x) r other a).add
given_is_answered x Names name at other g a = name_given x.names name at other g (name_is_taken x.names name other a.1)

-- adds of equal bytes to one table have one answer
pub one_index : (b : Basis) (before rest : List Entry) (e : Entry) (table : TableKind) (j : ℕ) → IsLegal b (before ++ e ∷ rest) → deed_of e.word ≡ Some (Added table j) →
    (front back : List Entry) (d : Entry) (i : ℕ) → before ≡ front ++ d ∷ back → deed_of d.word ≡ Some (Added table i) → d.brought ≡ e.brought → i ≡ j
one_index b before rest e table j l second front back d i at first same =
    let s = standing b front in
    let short : IsLegal b (front ++ d ∷ back) = legal_before b (front ++ d ∷ back) (before ++ e ∷ rest) l (record { rest = e ∷ rest; whole = ap (λ z. z ++ e ∷ rest) at }) in
    let given : Gives (after_entry s d).tables table d.brought i =
    subst (λ o. Gives (after_deed s (caller d) o d.brought).tables table d.brought i) (sym first) (gives_added s.tables table i d.brought (fits_there b front back d (Some (Added table i)) short first)) in
    let still : Gives (after_entries s (d ∷ back)).tables table d.brought i = gives_behind (after_entry s d) back table d.brought i given in
    let here : Gives (after b before) table d.brought i = subst (λ (z : Standing). Gives z.tables table d.brought i) (sym (ap (standing b) at ∙ standing_on b front (d ∷ back))) still in
    given_is_answered (after b before) table e.brought i j (subst (λ z. Gives (after b before) table z i) same here) (fits_there b before rest e (Some (Added table j)) l second)

-- what was brought stands where it was put

gives_there : (x : Tables) (table : TableKind) (bytes : List ℕ) (at : ℕ) → Gives x table bytes at → stands_at x table at ≡ Some bytes
gives_there x Types r at g = record_lemmas.record_there x.types r at g
gives_there x Items r at g = record_lemmas.record_there x.items r at g
gives_there x Names name at g = string_lemmas.name_there x.names name at g

-- it stands there behind any entries
pub stands : (b : Basis) (before rest : List Entry) (e : Entry) (table : TableKind) (at : ℕ) → IsLegal b (before ++ e ∷ rest) → deed_of e.word ≡ Some (Added table at) → (more : List Entry) → stands_at (after b (before ++ e ∷ more)) table at ≡ Some e.brought
stands b before rest e table at l is more =
    let s = standing b before in
    let given : Gives (after_entry s e).tables table e.brought at =
    subst (λ o. Gives (after_deed s (caller e) o e.brought).tables table e.brought at) (sym is) (gives_added s.tables table at e.brought (fits_there b before rest e (Some (Added table at)) l is)) in
    let still : Gives (after_entries s (e ∷ more)).tables table e.brought at = gives_behind (after_entry s e) more table e.brought at given in
    gives_there (after b (before ++ e ∷ more)) table e.brought at (subst (λ (z : Standing). Gives z.tables table e.brought at) (sym (standing_on b before (e ∷ more))) still)
