-- Words that show that they fit are let pass by the code.
use Rattle.std.proofs.Common.{◌≡◌, ◌≢◌, ◌≤◌, ◌+◌, ◌==◌, ℕ, Bool, true, false, cond, ltb, eq-eqb, ne_eqb, List, [], ◌∷◌, ◌++◌, length, Option, Some, None, option_and_then, refl, sym, ap, subst, ◌∙◌, arith}
use Rattle.std.specs.Prelude.{◌&&◌, not, is_none}
use Rattle.std.specs.Bool.{⊤}
use Rattle.std.proofs.lemmas.Bool.Decides.{nat_tests}
use Rattle.std.proofs.lemmas.List.{append-nil, append_assoc}
use Rattle.record_table.specs.Table as records
use Rattle.turnstile.specs.declared.history.Entry.{Entry}
use Rattle.turnstile.specs.declared.history.Basis.{Basis}
use Rattle.turnstile.specs.Histories.{caller}
use Rattle.call_journal.specs.declared.deed.TableKind.{TableKind}
use Rattle.call_journal.specs.declared.deed.TableKind.TheVariants.{Types, Items, Names}
use Rattle.call_journal.specs.declared.deed.Limit.{Limit}
use Rattle.call_journal.specs.declared.deed.Limit.TheVariants as limit
use Rattle.call_journal.specs.declared.deed.Deed.{Deed}
use Rattle.call_journal.specs.declared.deed.Deed.TheVariants.{Added, Asked, Counted, NotGiven, Full, Began, Ended, Underway}
use Rattle.call_journal.specs.Words.{deed_of}
use Rattle.core_model.specs.declared.state.ReplayState.{ReplayState}
use Rattle.table_model.specs.Tables.{Tables}
use Rattle.core_model.specs.Cuts.{Extends}
use Rattle.core_model.specs.History.{NamesNothing, Standing, after, after_deed, after_entry, standing}
use Rattle.core_model.specs.Replay.{DeedShows, HasLimit, AreBeginnings, IsShown, LeadsInto, LeadsTo, Lists, counts_of, lists_of, words_of}
use Rattle.core_model.specs.Steps.{next_state, state_after, state_after_deed, holds_records, is_end, is_limit_of, is_next, is_open, is_open_number, names_nothing, first_state}
use Rattle.core_model.proofs.Adding.{Counts, add_passes}
use Rattle.core_model.proofs.Extending.{extends_history, starts_on, starts_self}
use Rattle.core_model.proofs.Growing.{standing_more}

-- the last number, as the code has it: of the last commit that began, if one did
abbrev pub LastIs : ℕ → Option ℕ → Type 0
LastIs number None = ⊤
LastIs number (Some last) = last ≡ number

-- this is how things stand, as the code has it
pub record AgreesWith (s : Standing) (p : ReplayState) : Type 0 where
  pub counts : Counts p (lists_of s.tables)
  pub last : LastIs s.number p.last
  pub commit : p.under_way ≡ s.under_way

-- a deed that the code lets pass, and agrees
pub record Step (lists : Lists) (s : Standing) (c : ℕ) (p : ReplayState) (d : Option Deed) (bytes : List ℕ) : Type 0 where
  pub further : ReplayState
  pub fits : state_after_deed lists p c d ≡ Some further
  pub agrees : AgreesWith (after_deed s c d bytes) further

if_true : (b : Bool) (p : ReplayState) → b ≡ true → cond b (Some p) None ≡ Some p
if_true b p e = ap (λ z. cond z (Some p) None) e

not_below : (index n : ℕ) → n ≤ index → not (ltb index n) ≡ true
not_below index n above = let below : ltb index n ≡ false = grind (arith, nat_tests) in ap not below

of_records : (table : TableKind) → table ≢ Names → holds_records table ≡ true
of_records Types other = refl
of_records Items other = refl
of_records Names other = absurd (other refl)

nothing_there : (s : Standing) (p : ReplayState) (space table : TableKind) (index : ℕ) → Counts p (lists_of s.tables) → NamesNothing s.tables space index → table ≢ Names
    → (names_nothing p space index && holds_records table) ≡ true
nothing_there s p Types table index c none other = ap (λ b. b && holds_records table) (not_below index (records.index_at p.types) (omega (arith, c.types, none))) ∙ of_records table other
nothing_there s p Items table index c none other = ap (λ b. b && holds_records table) (not_below index (records.index_at p.items) (omega (arith, c.items, none))) ∙ of_records table other
nothing_there s p Names table index c none other = absurd none

limit_there : (table : TableKind) (l : Limit) → HasLimit table l → is_limit_of table l ≡ true
limit_there table limit.Records has = of_records table has
limit_there table limit.Bytes has = of_records table has
limit_there table limit.Names has = ap (λ t. not (holds_records t)) has

next_there : (o : Option ℕ) (number before : ℕ) → LastIs before o → number ≡ before + 1 → is_next o number ≡ true
next_there None number before last next = ap not (ne_eqb number 0 (λ e. omega (arith, e, next)))
next_there (Some n) number before last next = eq-eqb number (n + 1) (omega (arith, next, last))

step : (lists : Lists) (s : Standing) (c : ℕ) (p : ReplayState) (d : Option Deed) (bytes : List ℕ) → AgreesWith s p → DeedShows s c d bytes → AreBeginnings (lists_of (after_deed s c d bytes).tables) lists → Step lists s c p d bytes
step lists s c p None bytes a shows reached = absurd shows
step lists s c p (Some (Added table at)) bytes a shows reached =
    let f = add_passes lists s.tables p table at bytes shows a.counts reached in
    record { further = record p { types = f.types; items = f.items; names = f.names }; fits = f.fits; agrees = record { counts = f.counts; last = a.last; commit = a.commit } }
step lists s c p (Some (Asked table at)) bytes a shows reached = record { further = p; fits = refl; agrees = a }
step lists s c p (Some Counted) bytes a shows reached = record { further = p; fits = refl; agrees = a }
step lists s c p (Some (NotGiven index space table)) bytes a shows reached =
    record { further = p; fits = if_true (names_nothing p space index && holds_records table) p (nothing_there s p space table index a.counts shows.1 shows.2); agrees = a }
step lists s c p (Some (Full size l table)) bytes a shows reached = record { further = p; fits = if_true (is_limit_of table l) p (limit_there table l shows.1); agrees = a }
step lists s c p (Some (Began number)) bytes a shows reached =
    let none : p.under_way ≡ None = a.commit ∙ shows.1 in
    let q : ReplayState = record p { last = Some number; under_way = Some (record { caller = c; number = number }) } in
    record {
      further = q;
      fits = ap (λ o. cond (is_none o && is_next p.last number) (Some q) None) none ∙ if_true (is_next p.last number) q (next_there p.last number s.number a.last shows.2);
      agrees = record { counts = record { types = a.counts.types; items = a.counts.items; names = a.counts.names }; last = refl; commit = refl };
    }
step lists s c p (Some (Ended number acknowledged)) bytes a shows reached =
    let there : p.under_way ≡ Some (record { caller = c; number = number }) = a.commit ∙ shows.1 in
    let q : ReplayState = record p { under_way = None } in
    record {
      further = q;
      fits = ap (λ o. cond (is_open o c number) (Some q) None) there ∙ ap (λ b. cond (b && (number == number)) (Some q) None) (eq-eqb c c refl) ∙ if_true (number == number) q (eq-eqb number number refl);
      agrees = record { counts = record { types = a.counts.types; items = a.counts.items; names = a.counts.names }; last = a.last; commit = refl };
    }
step lists s c p (Some (Underway number)) bytes a shows reached =
    let there : p.under_way ≡ Some (record { caller = shows.1.0; number = number }) = a.commit ∙ shows.1.1 in
    record { further = p; fits = ap (λ o. cond (is_open_number o number) (Some p) None) there ∙ if_true (number == number) p (eq-eqb number number refl); agrees = a }

abbrev pub Agrees : Basis → List Entry → ReplayState → Type 0
Agrees b entries p = AgreesWith (standing b entries) p

-- an entry that shows that it fits
pub step_entry : (lists : Lists) (b : Basis) (before : List Entry) (e : Entry) (p : ReplayState) → Agrees b before p → DeedShows (standing b before) (caller e) (deed_of e.word) e.brought → AreBeginnings (lists_of (after_entry (standing b before) e).tables) lists
    → (q : ReplayState) × (next_state lists p e.word ≡ Some q) × Agrees b (before ++ e ∷ []) q
step_entry lists b before e p a shows reached =
    let one = step lists (standing b before) (caller e) p (deed_of e.word) e.brought a shows reached in
    (one.further, one.fits, subst (λ s. AgreesWith s one.further) (sym (standing_more b before e)) one.agrees)

pub agrees_opened : (b : Basis) → Agrees b [] (first_state (counts_of b))
agrees_opened b = record { counts = record { types = refl; items = refl; names = refl }; last = tt; commit = refl }

-- the code comes to the end of words that lead into the lists
record Passes (lists : Lists) (b : Basis) (entries : List Entry) (p : ReplayState) (words : List ℕ) : Type 0 where
  pub last : ReplayState
  pub fits : state_after lists p words ≡ Some last
  pub agrees : Agrees b entries last

pub reached_on : (x y : Tables) (lists : Lists) → Extends x y → AreBeginnings (lists_of y) lists → AreBeginnings (lists_of x) lists
reached_on x y lists e r = record {
  types = starts_on x.types.records y.types.records lists.types e.types r.types;
  items = starts_on x.items.records y.items.records lists.items e.items r.items;
  names = starts_on x.names.names y.names.names lists.names e.names r.names;
}

passes_on : (lists : Lists) (b : Basis) (h : List Entry) → IsShown b h → AreBeginnings (lists_of (after b h)) lists → (before rest : List Entry) → h ≡ before ++ rest → (p : ReplayState) → Agrees b before p → Passes lists b h p (words_of rest)
passes_on lists b h shown reached before [] there p a =
    let same : before ≡ h = sym (there ∙ append-nil before) in
    record { last = p; fits = refl; agrees = subst (λ z. Agrees b z p) same a }
passes_on lists b h shown reached before (e ∷ rest) there p a =
    let on : h ≡ (before ++ e ∷ []) ++ rest = there ∙ sym (append_assoc before (e ∷ []) rest) in
    let extends : Extends (after b (before ++ e ∷ [])) (after b h) = subst (λ z. Extends (after b (before ++ e ∷ [])) (after b z)) (sym on) (extends_history b (before ++ e ∷ []) rest) in
    let here = reached_on (after b (before ++ e ∷ [])) (after b h) lists extends reached in
    let one = step_entry lists b before e p a (shown.shows before e rest there) (subst (λ (s : Standing). AreBeginnings (lists_of s.tables) lists) (standing_more b before e) here) in
    let others = passes_on lists b h shown reached (before ++ e ∷ []) rest on one.0 one.2 in
    record { last = others.last; fits = ap (option_and_then (λ q. state_after lists q (words_of rest))) one.1 ∙ others.fits; agrees = others.agrees }

passes : (lists : Lists) (b : Basis) (h : List Entry) → IsShown b h → AreBeginnings (lists_of (after b h)) lists → Passes lists b h (first_state (counts_of b)) (words_of h)
passes lists b h shown reached = passes_on lists b h shown reached [] h refl (first_state (counts_of b)) (agrees_opened b)

-- So words that lead into the lists are let pass, and at the end of words that lead to them the lists are whole.

pub into_passes : (start : ℕ × ℕ × ℕ) (words : List ℕ) (lists : Lists) → LeadsInto start words lists → (q : ReplayState) × (state_after lists (first_state start) words ≡ Some q)
into_passes start words lists i =
    let k = i.leads in
    let reached : AreBeginnings (lists_of (after k.basis k.entries)) lists = subst (λ z. AreBeginnings z lists) (sym k.lists) i.beginnings in
    let h = passes lists k.basis k.entries k.shown reached in
    (h.last, ap (λ z. state_after lists (first_state z) words) (sym k.counts) ∙ ap (state_after lists (first_state (counts_of k.basis))) (sym k.has_words) ∙ h.fits)

pub self_reached : (lists : Lists) → AreBeginnings lists lists
self_reached lists = record { types = starts_self lists.types; items = starts_self lists.items; names = starts_self lists.names }

-- the code finds that the lists are whole
pub ends : (lists : Lists) (p : ReplayState) → Counts p lists → is_end lists p ≡ true
ends lists p c =
    ap (λ b. b && (p.items == length lists.items) && (p.names == length lists.names)) (eq-eqb p.types (length lists.types) c.types)
    ∙ ap (λ b. b && (p.names == length lists.names)) (eq-eqb p.items (length lists.items) c.items) ∙ eq-eqb p.names (length lists.names) c.names

pub to_passes : (start : ℕ × ℕ × ℕ) (words : List ℕ) (lists : Lists) → LeadsTo start words lists → (q : ReplayState) × (state_after lists (first_state start) words ≡ Some q) × (is_end lists q ≡ true)
to_passes start words lists k =
    let reached : AreBeginnings (lists_of (after k.basis k.entries)) lists = subst (λ z. AreBeginnings z lists) (sym k.lists) (self_reached lists) in
    let h = passes lists k.basis k.entries k.shown reached in
    (h.last, ap (λ z. state_after lists (first_state z) words) (sym k.counts) ∙ ap (state_after lists (first_state (counts_of k.basis))) (sym k.has_words) ∙ h.fits, ends lists h.last (subst (Counts h.last) k.lists h.agrees.counts))
