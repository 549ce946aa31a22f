-- Words that the code lets pass are those of some history.
use Rattle.std.proofs.Common.{◌≡◌, ◌≢◌, ◌≤◌, ◌+◌, ◌-◌, ◌==◌, eq-eqb, ℕ, zero, suc, Bool, true, false, cond, ltb, ⊎_elim, List, [], ◌∷◌, ◌++◌, length, length-append, take, drop, Option, Some, None, option_and_then, refl, sym, ap, subst, ◌∙◌, arith}
use Rattle.std.specs.Prelude.{◌/◌, ◌^◌, ◌&&◌, not, is_none}
use Rattle.std.specs.Bool.{⊤}
use Rattle.std.proofs.lemmas.Bool.{ltb-false}
use Rattle.std.proofs.lemmas.List.{append-nil, append_assoc, length-take-le, take-append-drop}
use Rattle.record_table.specs.Table as records
use Rattle.turnstile.specs.declared.history.Entry.{Entry}
use Rattle.turnstile.specs.declared.history.Basis.{Basis}
use Rattle.turnstile.specs.Histories.{caller}
use Rattle.call_journal.specs.declared.deed.TableKind.{TableKind}
use Rattle.call_journal.specs.declared.deed.TableKind.TheVariants.{Types, Items, Names}
use Rattle.call_journal.specs.declared.deed.Limit.{Limit}
use Rattle.call_journal.specs.declared.deed.Limit.TheVariants as limit
use Rattle.call_journal.specs.declared.deed.Deed.{Deed}
use Rattle.call_journal.specs.declared.deed.Deed.TheVariants.{Added, Asked, Counted, NotGiven, Full, Began, Ended, Underway}
use Rattle.call_journal.specs.Words.{deed_of}
use Rattle.core_model.specs.declared.state.ReplayState.{ReplayState}
use Rattle.core_model.specs.Cuts.{StartsWith}
use Rattle.core_model.specs.History.{NamesNothing, OpenCommit, Standing, after, after_deed, standing}
use Rattle.core_model.specs.Replay.{DeedShows, HasLimit, AreBeginnings, IsShown, LeadsInto, LeadsTo, Lists, counts_of, lists_of, words_of}
use Rattle.core_model.specs.Steps.{HasStart, count_with, next_state, place_fits, place_of_index, place_of_offset, state_after, state_after_deed, holds_records, is_end, is_limit_of, is_next, is_open, is_open_number, names_nothing, first_state}
use Rattle.core_model.proofs.Adding.{Counts, add_found}
use Rattle.core_model.proofs.Growing.{place_in_more, standing_more}
use Rattle.core_model.proofs.Leading.{Agrees, AgreesWith, LastIs, agrees_opened, step_entry}
use Rattle.core_model.proofs.Placing.{equal}

-- What the code tests.

both_true : (a b : Bool) → (a && b) ≡ true → (a ≡ true) × (b ≡ true)
both_true true b e = (refl, e)
both_true false b e = absurd cc

let_pass : (b : Bool) (p q : ReplayState) → cond b (Some p) None ≡ Some q → b ≡ true
let_pass true p q e = refl
let_pass false p q e = absurd cc

above : (index n : ℕ) → not (ltb index n) ≡ true → n ≤ index
above index n e = go (ltb index n) refl e where
  go : (b : Bool) → ltb index n ≡ b → not b ≡ true → n ≤ index
  go true below e = absurd cc
  go false below e = ltb-false index n below

holds_no_names : (table : TableKind) → holds_records table ≡ true → table ≢ Names
holds_no_names table e same = let none : false ≡ true = ap holds_records (sym same) ∙ e in absurd cc

nothing_found : (s : Standing) (p : ReplayState) (space : TableKind) (index : ℕ) → Counts p (lists_of s.tables) → names_nothing p space index ≡ true → NamesNothing s.tables space index
nothing_found s p Types index c e = omega (arith, c.types, above index (records.index_at p.types) e)
nothing_found s p Items index c e = omega (arith, c.items, above index (records.index_at p.items) e)
nothing_found s p Names index c e = absurd cc

limit_found : (table : TableKind) (l : Limit) → is_limit_of table l ≡ true → HasLimit table l
limit_found table limit.Records e = holds_no_names table e
limit_found table limit.Bytes e = holds_no_names table e
limit_found Types limit.Names e = absurd cc
limit_found Items limit.Names e = absurd cc
limit_found Names limit.Names e = refl

none_open : (o : Option OpenCommit) (p : Option OpenCommit) → p ≡ o → is_none p ≡ true → o ≡ None
none_open None p same e = refl
none_open (Some k) p same e = absurd (let z : false ≡ true = ap is_none (sym same) ∙ e in cc)

own_open : (o : Option OpenCommit) (p : Option OpenCommit) (c number : ℕ) → p ≡ o → is_open p c number ≡ true → o ≡ Some (record { caller = c; number = number })
own_open None p c number same e = absurd (let z : false ≡ true = ap (λ q. is_open q c number) (sym same) ∙ e in cc)
own_open (Some k) p c number same e =
    let tests = both_true (k.caller == c) (k.number == number) (ap (λ q. is_open q c number) (sym same) ∙ e) in
    let caller : k.caller ≡ c = equal k.caller c tests.0 in
    let its_number : k.number ≡ number = equal k.number number tests.1 in
    ap Some (ap (λ n. record { caller = n; number = k.number }) caller ∙ ap (λ n. record { caller = c; number = n }) its_number)

any_open : (o : Option OpenCommit) (p : Option OpenCommit) (number : ℕ) → p ≡ o → is_open_number p number ≡ true → (d : ℕ) × (o ≡ Some (record { caller = d; number = number }))
any_open None p number same e = absurd (let z : false ≡ true = ap (λ q. is_open_number q number) (sym same) ∙ e in cc)
any_open (Some k) p number same e =
    let its_number : k.number ≡ number = equal k.number number (ap (λ q. is_open_number q number) (sym same) ∙ e) in
    (k.caller, ap (λ n. Some (record { caller = k.caller; number = n })) its_number)

-- what a deed that passes brought
record Shown (lists : Lists) (s : Standing) (c : ℕ) (d : Option Deed) : Type 0 where
  pub bytes : List ℕ
  pub shows : DeedShows s c d bytes
  pub reached : AreBeginnings (lists_of (after_deed s c d bytes).tables) lists

deed_shown : (lists : Lists) (s : Standing) (p q : ReplayState) (c : ℕ) (d : Option Deed) → AgreesWith s p → ((number : ℕ) → d ≡ Some (Began number) → is_next p.last number ≡ true → number ≡ s.number + 1) → AreBeginnings (lists_of s.tables) lists → state_after_deed lists p c d ≡ Some q → Shown lists s c d
deed_shown lists s p q c None a next reached e = absurd cc
deed_shown lists s p q c (Some (Added table at)) a next reached e =
    let f = add_found lists s.tables p q table at a.counts reached e in record { bytes = f.bytes; shows = f.shows; reached = f.reached }
deed_shown lists s p q c (Some (Asked table at)) a next reached e = record { bytes = []; shows = refl; reached = reached }
deed_shown lists s p q c (Some Counted) a next reached e = record { bytes = []; shows = refl; reached = reached }
deed_shown lists s p q c (Some (NotGiven index space table)) a next reached e =
    let tests = both_true (names_nothing p space index) (holds_records table) (let_pass (names_nothing p space index && holds_records table) p q e) in
    record { bytes = []; shows = (refl, nothing_found s p space index a.counts tests.0, holds_no_names table tests.1); reached = reached }
deed_shown lists s p q c (Some (Full size l table)) a next reached e = record { bytes = []; shows = (refl, limit_found table l (let_pass (is_limit_of table l) p q e)); reached = reached }
deed_shown lists s p q c (Some (Began number)) a next reached e =
    let further : ReplayState = record p { last = Some number; under_way = Some (record { caller = c; number = number }) } in
    let tests = both_true (is_none p.under_way) (is_next p.last number) (let_pass (is_none p.under_way && is_next p.last number) further q e) in
    record {
      bytes = [];
      shows = (refl, none_open s.under_way p.under_way a.commit tests.0, next number refl tests.1);
      reached = reached;
    }
deed_shown lists s p q c (Some (Ended number acknowledged)) a next reached e =
    let further : ReplayState = record p { under_way = None } in
    record { bytes = []; shows = (refl, own_open s.under_way p.under_way c number a.commit (let_pass (is_open p.under_way c number) further q e)); reached = reached }
deed_shown lists s p q c (Some (Underway number)) a next reached e =
    record { bytes = []; shows = (refl, any_open s.under_way p.under_way number a.commit (let_pass (is_open_number p.under_way number) p q e)); reached = reached }

-- The number of the basis: the one before that of the first commit that begins.

abbrev age_by : Option Deed → ℕ → ℕ
age_by (Some (Began number)) later = number - 1
age_by _ later = later

abbrev first_age : List ℕ → ℕ
first_age [] = 0
first_age (word ∷ words) = age_by (deed_of word) (first_age words)

-- the last number, while no commit has begun before these words
abbrev IsAhead : ℕ → Option ℕ → List ℕ → Type 0
IsAhead number None words = number ≡ first_age words
IsAhead number (Some last) words = ⊤

next_found : (o : Option ℕ) (number before word : ℕ) (words : List ℕ) → LastIs before o → IsAhead before o (word ∷ words) → deed_of word ≡ Some (Began number) → is_next o number ≡ true → number ≡ before + 1
next_found None zero before word words last ahead is e = absurd (let no : false ≡ true = ap not (sym (eq-eqb 0 0 refl)) ∙ e in cc)
next_found None (suc number) before word words last ahead is e = let first : before ≡ suc number - 1 = ahead ∙ ap (λ d. age_by d (first_age words)) is in omega arith
next_found (Some n) number before word words last ahead is e = omega (arith, equal number (n + 1) e, last)

kept_if : (b : Bool) (p r q : ReplayState) → r.last ≡ p.last → cond b (Some r) None ≡ Some q → q.last ≡ p.last
kept_if true p r q same e = let is : r ≡ q = cc in ap (λ (z : ReplayState). z.last) (sym is) ∙ same
kept_if false p r q same e = absurd cc

kept_by_name : (b c : Bool) (p r q : ReplayState) → r.last ≡ p.last → cond b (Some p) (cond c (Some r) None) ≡ Some q → q.last ≡ p.last
kept_by_name true c p r q same e = kept_if true p p q refl e
kept_by_name false c p r q same e = kept_if c p r q same e

-- a deed that begins no commit leaves the last number
last_kept : (lists : Lists) (p q : ReplayState) (c : ℕ) (d : Option Deed) → ((number : ℕ) → d ≢ Some (Began number)) → state_after_deed lists p c d ≡ Some q → q.last ≡ p.last
last_kept lists p q c None other e = absurd cc
last_kept lists p q c (Some (Added Types at)) other e = kept_if (place_fits lists.types p.types (place_of_index at)) p (record p { types = count_with p.types (place_of_index at) }) q refl e
last_kept lists p q c (Some (Added Items at)) other e = kept_if (place_fits lists.items p.items (place_of_index at)) p (record p { items = count_with p.items (place_of_index at) }) q refl e
last_kept lists p q c (Some (Added Names at)) other e =
    kept_by_name (at == 0) (place_fits lists.names p.names (place_of_offset 1 lists.names at)) p (record p { names = count_with p.names (place_of_offset 1 lists.names at) }) q refl e
last_kept lists p q c (Some (Asked table at)) other e = kept_if true p p q refl e
last_kept lists p q c (Some Counted) other e = kept_if true p p q refl e
last_kept lists p q c (Some (NotGiven index space table)) other e = kept_if (names_nothing p space index && holds_records table) p p q refl e
last_kept lists p q c (Some (Full size l table)) other e = kept_if (is_limit_of table l) p p q refl e
last_kept lists p q c (Some (Began number)) other e = absurd (other number refl)
last_kept lists p q c (Some (Ended number acknowledged)) other e = kept_if (is_open p.under_way c number) p (record p { under_way = None }) q refl e
last_kept lists p q c (Some (Underway number)) other e = kept_if (is_open_number p.under_way number) p p q refl e

still_ahead : (number word : ℕ) (words : List ℕ) (o m : Option ℕ) → m ≡ o → first_age (word ∷ words) ≡ first_age words → IsAhead number o (word ∷ words) → IsAhead number m words
still_ahead number word words o m same later ahead = subst (λ z. IsAhead number z words) (sym same) (go o ahead) where
  go : (o : Option ℕ) → IsAhead number o (word ∷ words) → IsAhead number o words
  go None a = a ∙ later
  go (Some last) a = tt

begun_last : (b : Bool) (r q : ReplayState) (number : ℕ) → r.last ≡ Some number → cond b (Some r) None ≡ Some q → q.last ≡ Some number
begun_last true r q number same e = let is : r ≡ q = cc in ap (λ (z : ReplayState). z.last) (sym is) ∙ same
begun_last false r q number same e = absurd cc

ahead_on : (lists : Lists) (s : Standing) (p q : ReplayState) (c : ℕ) (d : Option Deed) (bytes : List ℕ) (word : ℕ) (words : List ℕ) → deed_of word ≡ d → state_after_deed lists p c d ≡ Some q → IsAhead s.number p.last (word ∷ words) → IsAhead (after_deed s c d bytes).number q.last words
ahead_on lists s p q c (Some (Began number)) bytes word words is e ahead =
    let further : ReplayState = record p { last = Some number; under_way = Some (record { caller = c; number = number }) } in
    subst (λ z. IsAhead number z words) (sym (begun_last (is_none p.under_way && is_next p.last number) further q number refl e)) tt
ahead_on lists s p q c d bytes word words is e ahead = still_ahead s.number word words p.last q.last (last_kept lists p q c d (λ n no. cc) e) (ap (λ z. age_by z (first_age words)) is) ahead

-- A history of the words so far, before the words that come next.

pub record Traced (lists : Lists) (start : ℕ × ℕ × ℕ) (words : List ℕ) (p : ReplayState) (next : List ℕ) : Type 0 where
  pub basis : Basis
  pub entries : List Entry
  pub counts : counts_of basis ≡ start
  pub has_words : words_of entries ≡ words
  pub shown : IsShown basis entries
  pub reached : AreBeginnings (lists_of (after basis entries)) lists
  pub agrees : Agrees basis entries p
  pub ahead : IsAhead (standing basis entries).number p.last next

shown_nothing : (b : Basis) → IsShown b []
shown_nothing b = record { shows = go } where
  go : (before : List Entry) (e : Entry) (rest : List Entry) → [] ≡ before ++ e ∷ rest → DeedShows (standing b before) (caller e) (deed_of e.word) e.brought
  go [] e rest eq = absurd cc
  go (x ∷ before) e rest eq = absurd cc

shown_more : (b : Basis) (h : List Entry) (e : Entry) → IsShown b h → DeedShows (standing b h) (caller e) (deed_of e.word) e.brought → IsShown b (h ++ e ∷ [])
shown_more b h e s f = record { shows = go } where
  go : (before : List Entry) (d : Entry) (rest : List Entry) → h ++ e ∷ [] ≡ before ++ d ∷ rest → DeedShows (standing b before) (caller d) (deed_of d.word) d.brought
  go before d rest eq =
      ⊎_elim (λ p. subst (λ z. DeedShows (standing b z) (caller d) (deed_of d.word) d.brought) (sym p.0) (subst (λ (z : Entry). DeedShows (standing b h) (caller z) (deed_of z.word) z.brought) (sym p.1) f))
      (λ p. s.shows before d p.0 p.1) (place_in_more h before rest e d eq)

words_of-append : (a b : List Entry) → words_of (a ++ b) ≡ words_of a ++ words_of b
words_of-append [] b = refl
words_of-append (e ∷ a) b = ap (λ z. e.word ∷ z) (words_of-append a b)

begins_with_first : (n : ℕ) (list : List (List ℕ)) → StartsWith (take n list) list
begins_with_first n list = (drop n list, sym (take-append-drop n list))

-- the history of no words
opened_traced : (lists : Lists) (start : ℕ × ℕ × ℕ) (words : List ℕ) → HasStart lists start → Traced lists start [] (first_state start) words
opened_traced lists start words has =
    let b : Basis = record { numbers = first_age words ∷ []; types = take start.0 lists.types; items = take start.1 lists.items; names = take start.2 lists.names } in
    let counts : counts_of b ≡ start =
    ap (λ n. (n, length b.items, length b.names)) (length-take-le start.0 lists.types has.types) ∙ ap (λ n. (start.0, n, length b.names)) (length-take-le start.1 lists.items has.items)
    ∙ ap (λ n. (start.0, start.1, n)) (length-take-le start.2 lists.names has.names) in
    record {
      basis = b;
      entries = [];
      counts = counts;
      has_words = refl;
      shown = shown_nothing b;
      reached = record { types = begins_with_first start.0 lists.types; items = begins_with_first start.1 lists.items; names = begins_with_first start.2 lists.names };
      agrees = subst (λ z. Agrees b [] (first_state z)) counts (agrees_opened b);
      ahead = refl;
    }

-- a word more
traced_more : (lists : Lists) (start : ℕ × ℕ × ℕ) (words : List ℕ) (p q : ReplayState) (word : ℕ) (next : List ℕ) → Traced lists start words p (word ∷ next) → next_state lists p word ≡ Some q → Traced lists start (words ++ word ∷ []) q next
traced_more lists start words p q word next t e =
    let b = t.basis in
    let h = t.entries in
    let f = deed_shown lists (standing b h) p q (word / 2 ^ 56) (deed_of word) t.agrees (λ number is. next_found p.last number (standing b h).number word next t.agrees.last t.ahead is) t.reached e in
    let more : Entry = record { word = word; brought = f.bytes } in
    let one = step_entry lists b h more p t.agrees f.shows f.reached in
    let same : one.0 ≡ q = let z : Some one.0 ≡ Some q = sym one.1 ∙ e in cc in
    record {
      basis = b;
      entries = h ++ more ∷ [];
      counts = t.counts;
      has_words = words_of-append h (more ∷ []) ∙ ap (λ z. z ++ word ∷ []) t.has_words;
      shown = shown_more b h more t.shown f.shows;
      reached = subst (λ (s : Standing). AreBeginnings (lists_of s.tables) lists) (sym (standing_more b h more)) f.reached;
      agrees = subst (Agrees b (h ++ more ∷ [])) same one.2;
      ahead = subst (λ (s : Standing). IsAhead s.number q.last next) (sym (standing_more b h more)) (ahead_on lists (standing b h) p q (word / 2 ^ 56) (deed_of word) f.bytes word next refl e t.ahead);
    }

traced_on : (lists : Lists) (start : ℕ × ℕ × ℕ) (front words : List ℕ) (p q : ReplayState) → Traced lists start front p words → state_after lists p words ≡ Some q → Traced lists start (front ++ words) q []
traced_on lists start front [] p q t e = let same : p ≡ q = cc in subst (λ z. Traced lists start z q []) (sym (append-nil front)) (subst (λ z. Traced lists start front z []) same t)
traced_on lists start front (word ∷ words) p q t e = go (next_state lists p word) (λ r some. traced_more lists start front p r word words t some) (λ r u f. traced_on lists start (front ++ word ∷ []) words r q u f) e where
  go : (o : Option ReplayState) → ((r : ReplayState) → o ≡ Some r → Traced lists start (front ++ word ∷ []) r words)
      → ((r : ReplayState) → Traced lists start (front ++ word ∷ []) r words → state_after lists r words ≡ Some q → Traced lists start ((front ++ word ∷ []) ++ words) q [])
      → option_and_then (λ r. state_after lists r words) o ≡ Some q → Traced lists start (front ++ word ∷ words) q []
  go None more on e = absurd cc
  go (Some r) more on e = subst (λ z. Traced lists start z q []) (append_assoc front (word ∷ []) words) (on r (more r refl) e)

traced : (lists : Lists) (start : ℕ × ℕ × ℕ) (words : List ℕ) (q : ReplayState) → HasStart lists start → state_after lists (first_state start) words ≡ Some q → Traced lists start words q []
traced lists start words q has e = traced_on lists start [] words (first_state start) q (opened_traced lists start words has) e

-- So words that pass lead into the lists, and where the lists are whole, to them.

pub passes_into : (start : ℕ × ℕ × ℕ) (words : List ℕ) (lists : Lists) (q : ReplayState) → HasStart lists start → state_after lists (first_state start) words ≡ Some q → LeadsInto start words lists
passes_into start words lists q has e =
    let t = traced lists start words q has e in
    record { reached = lists_of (after t.basis t.entries); leads = record { basis = t.basis; entries = t.entries; counts = t.counts; has_words = t.has_words; shown = t.shown; lists = refl }; beginnings = t.reached }

whole : (short long : List (List ℕ)) (n : ℕ) → StartsWith short long → n ≡ length short → n ≡ length long → short ≡ long
whole short long n s is all = go s.0 s.1 where
  go : (more : List (List ℕ)) → long ≡ short ++ more → short ≡ long
  go [] e = sym (e ∙ append-nil short)
  go (x ∷ more) e = absurd (omega (arith, ap length e, length-append short (x ∷ more)))

pub passes_to : (start : ℕ × ℕ × ℕ) (words : List ℕ) (lists : Lists) (q : ReplayState) → HasStart lists start → state_after lists (first_state start) words ≡ Some q → is_end lists q ≡ true → LeadsTo start words lists
passes_to start words lists q has e end =
    let t = traced lists start words q has e in
    let reached = lists_of (after t.basis t.entries) in
    let c : Counts q reached = t.agrees.counts in
    let tests = both_true ((q.types == length lists.types) && (q.items == length lists.items)) (q.names == length lists.names) end in
    let others = both_true (q.types == length lists.types) (q.items == length lists.items) tests.0 in
    let types : reached.types ≡ lists.types = whole reached.types lists.types q.types t.reached.types c.types (equal q.types (length lists.types) others.0) in
    let items : reached.items ≡ lists.items = whole reached.items lists.items q.items t.reached.items c.items (equal q.items (length lists.items) others.1) in
    let names : reached.names ≡ lists.names = whole reached.names lists.names q.names t.reached.names c.names (equal q.names (length lists.names) tests.1) in
    record {
      basis = t.basis;
      entries = t.entries;
      counts = t.counts;
      has_words = t.has_words;
      shown = t.shown;
      lists = ap (λ z. record { types = z; items = reached.items; names = reached.names }) types ∙ ap (λ z. record { types = lists.types; items = z; names = reached.names }) items
          ∙ ap (λ z. record { types = lists.types; items = lists.items; names = z }) names;
    }
