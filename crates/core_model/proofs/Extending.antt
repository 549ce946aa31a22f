-- Tables only grow along a history, so a later cut holds what an earlier one holds.
use Rattle.std.proofs.Common.{◌≡◌, ◌≤◌, ◌<◌, ◌+◌, ◌==◌, ℕ, Bool, true, false, cond, List, [], ◌∷◌, ◌++◌, length, Option, Some, None, inl, inr, ⊎_elim, refl, sym, ap, ◌∙◌, subst, arith}
use Rattle.std.proofs.lemmas.List.{append-nil, append_assoc}
use Rattle.record_table.specs.Table as records
use Rattle.names_table.specs.Names as strings
use Rattle.turnstile.specs.declared.history.Entry.{Entry}
use Rattle.turnstile.specs.declared.history.Basis.{Basis}
use Rattle.turnstile.specs.Histories.{caller}
use Rattle.call_journal.specs.declared.deed.TableKind.{TableKind}
use Rattle.call_journal.specs.declared.deed.TableKind.TheVariants.{Types, Items, Names}
use Rattle.call_journal.specs.declared.deed.Deed.{Deed}
use Rattle.call_journal.specs.declared.deed.Deed.TheVariants.{Added, Asked, Counted, NotGiven, Full, Began, Ended, Underway}
use Rattle.call_journal.specs.Words.{deed_of}
use Rattle.table_model.specs.Tables.{Tables}
use Rattle.core_model.specs.History.{IsLegal, IsStart, Standing, after, after_deed, after_entries, after_entry, age_of, standing, with_added}
use Rattle.core_model.specs.Cuts.{BeganAt, Extends, IsAllowed, StartsWith, cut_at}
use Rattle.table_model.specs.Cut.{Cut}
use Rattle.core_model.specs.Law.{IsAcknowledged}
use Rattle.core_model.proofs.Acknowledging.{acknowledged_newest, are_two, number_begun}
use Rattle.core_model.proofs.Answered.{added_items, added_names, added_types}
use Rattle.core_model.proofs.Growing.{legal_before, standing_on}
use Rattle.table_model.proofs.Records as record_lemmas
use Rattle.core_model.proofs.Replying.{fits_there}
use Rattle.core_model.proofs.Sound.{rising}
use Rattle.table_model.proofs.Strings as string_lemmas

pub starts_self : (xs : List (List ℕ)) → StartsWith xs xs
starts_self xs = ([], sym (append-nil xs))

pub starts_on : (xs ys zs : List (List ℕ)) → StartsWith xs ys → StartsWith ys zs → StartsWith xs zs
starts_on xs ys zs p q = (p.0 ++ q.0, q.1 ∙ ap (λ z. z ++ q.0) p.1 ∙ append_assoc xs p.0 q.0)

extends_self : (x : Tables) → Extends x x
extends_self x = record { types = starts_self x.types.records; items = starts_self x.items.records; names = starts_self x.names.names }

extends_on : (x y z : Tables) → Extends x y → Extends y z → Extends x z
extends_on x y z p q = record {
  types = starts_on x.types.records y.types.records z.types.records p.types q.types;
  items = starts_on x.items.records y.items.records z.items.records p.items q.items;
  names = starts_on x.names.names y.names.names z.names.names p.names q.names;
}

grown_starts : (t : records.Table) (at : ℕ) (r : List ℕ) → StartsWith t.records (record_lemmas.grown t at r).records
grown_starts t at r = go (at == records.index_at (length t.records)) where
  go : (c : Bool) → StartsWith t.records (cond c (records.appended t r) t).records
  go true = (r ∷ [], refl)
  go false = starts_self t.records

grown_names : (t : strings.Names) (at : ℕ) (name : List ℕ) → StartsWith t.names (string_lemmas.grown t at name).names
grown_names t at name = go (at == strings.bytes_of t.names) where
  go : (c : Bool) → StartsWith t.names (cond c (string_lemmas.with_name t name) t).names
  go true = (name ∷ [], refl)
  go false = starts_self t.names

extends_added : (x : Tables) (table : TableKind) (at : ℕ) (bytes : List ℕ) → Extends x (with_added x table at bytes)
extends_added x Types at r = rw (added_types x at r) (record { types = grown_starts x.types at r; items = starts_self x.items.records; names = starts_self x.names.names })
extends_added x Items at r = rw (added_items x at r) (record { types = starts_self x.types.records; items = grown_starts x.items at r; names = starts_self x.names.names })
extends_added x Names at name = rw (added_names x at name) (record { types = starts_self x.types.records; items = starts_self x.items.records; names = grown_names x.names at name })

extends_deed : (s : Standing) (c : ℕ) (deed : Option Deed) (bytes : List ℕ) → Extends s.tables (after_deed s c deed bytes).tables
extends_deed s c None bytes = extends_self s.tables
extends_deed s c (Some (Added table at)) bytes = extends_added s.tables table at bytes
extends_deed s c (Some (Asked table at)) bytes = extends_self s.tables
extends_deed s c (Some Counted) bytes = extends_self s.tables
extends_deed s c (Some (NotGiven index space table)) bytes = extends_self s.tables
extends_deed s c (Some (Full size limit table)) bytes = extends_self s.tables
extends_deed s c (Some (Began number)) bytes = extends_self s.tables
extends_deed s c (Some (Ended number acknowledged)) bytes = extends_self s.tables
extends_deed s c (Some (Underway number)) bytes = extends_self s.tables

extends_entries : (s : Standing) (entries : List Entry) → Extends s.tables (after_entries s entries).tables
extends_entries s [] = extends_self s.tables
extends_entries s (e ∷ entries) = extends_on s.tables (after_entry s e).tables (after_entries (after_entry s e) entries).tables (extends_deed s (caller e) (deed_of e.word) e.brought) (extends_entries (after_entry s e) entries)

-- the tables behind a longer history extend those behind its beginning
pub extends_history : (b : Basis) (h more : List Entry) → Extends (after b h) (after b (h ++ more))
extends_history b h more = subst (λ (z : Standing). Extends (after b h) z.tables) (sym (standing_on b h more)) (extends_entries (standing b h) more)

-- numbers

-- a cut that began in the history, whether or not another was acknowledged behind it
pub record HasBegun (b : Basis) (h : List Entry) (c : Cut) : Type 0 where
  pub before : List Entry
  pub began : Entry
  pub rest : List Entry
  pub there : h ≡ before ++ began ∷ rest
  pub deed : deed_of began.word ≡ Some (Began c.number)
  pub tables : c.tables ≡ after b before

has_begun : (b : Basis) (h : List Entry) (c : Cut) → BeganAt b h c → HasBegun b h c
has_begun b h c p = record { before = p.before; began = p.began; rest = p.rest; there = p.there; deed = p.deed; tables = p.tables }

-- a commit that began has the next number
began_next : (b : Basis) (h : List Entry) (c : Cut) → IsLegal b h → (p : HasBegun b h c) → c.number ≡ (standing b p.before).number + 1
began_next b h c l p = (fits_there b p.before p.rest p.began (Some (Began c.number)) (subst (IsLegal b) p.there l) p.deed).2

-- which is above that of the cut that was opened
above_opened : (b : Basis) (h : List Entry) (c : Cut) → IsLegal b h → HasBegun b h c → age_of b < c.number
above_opened b h c l p =
    let next : c.number ≡ (standing b p.before).number + 1 = began_next b h c l p in
    let high : age_of b ≤ (standing b p.before).number = rising b [] p.before (legal_before b p.before h l (record { rest = p.began ∷ p.rest; whole = p.there })) in
    omega arith

-- and above that of a commit that began before it
number_rises : (b : Basis) (h : List Entry) (c d : Cut) → IsLegal b h → (p : HasBegun b h c) (q : HasBegun b h d) → (mid : List Entry) → q.before ≡ p.before ++ p.began ∷ mid → c.number < d.number
number_rises b h c d l p q mid at =
    let front : IsLegal b (p.before ++ p.began ∷ mid) = subst (IsLegal b) at (legal_before b q.before h l (record { rest = q.began ∷ q.rest; whole = q.there })) in
    let whole : IsLegal b ((p.before ++ p.began ∷ []) ++ mid) = subst (IsLegal b) (sym (append_assoc p.before (p.began ∷ []) mid)) front in
    let high : (standing b (p.before ++ p.began ∷ [])).number ≤ (standing b ((p.before ++ p.began ∷ []) ++ mid)).number = rising b (p.before ++ p.began ∷ []) mid whole in
    let same : (standing b ((p.before ++ p.began ∷ []) ++ mid)).number ≡ (standing b q.before).number = ap (λ z. (standing b z).number) (append_assoc p.before (p.began ∷ []) mid ∙ sym at) in
    let own : (standing b (p.before ++ p.began ∷ [])).number ≡ c.number = number_begun b p.before p.began c.number p.deed in
    let next : d.number ≡ (standing b q.before).number + 1 = began_next b h d l q in
    omega arith

-- of two cuts that began the one of the greater number extends the other
began_extends : (b : Basis) (h : List Entry) (c d : Cut) → IsLegal b h → HasBegun b h c → HasBegun b h d → c.number ≤ d.number → Extends c.tables d.tables
began_extends b h c d l p q le = ⊎_elim in_front (⊎_elim same_place behind) (are_two p.before p.rest q.before q.rest p.began q.began (sym p.there ∙ q.there)) where
  extended : (t u : Tables) → c.tables ≡ t → d.tables ≡ u → Extends t u → Extends c.tables d.tables
  extended t u p q x = subst (λ z. Extends z d.tables) (sym p) (subst (Extends t) (sym q) x)

  in_front : (mid : List Entry) × (q.before ≡ p.before ++ p.began ∷ mid) → Extends c.tables d.tables
  in_front m = extended (after b p.before) (after b (p.before ++ p.began ∷ m.0)) p.tables (q.tables ∙ ap (after b) m.1) (extends_history b p.before (p.began ∷ m.0))

  same_place : (p.before ≡ q.before) × (p.began ≡ q.began) → Extends c.tables d.tables
  same_place same = extended (after b p.before) (after b p.before) p.tables (q.tables ∙ ap (after b) (sym same.0)) (extends_self (after b p.before))

  behind : (mid : List Entry) × (p.before ≡ q.before ++ q.began ∷ mid) × (q.rest ≡ mid ++ p.began ∷ p.rest) → Extends c.tables d.tables
  behind m = let less : d.number < c.number = number_rises b h d c l q p m.0 m.1 in absurd (omega arith)

-- an allowed cut of no smaller number extends one that began
allowed_extends : (b : Basis) (h : List Entry) (c d : Cut) → IsLegal b h → HasBegun b h c → IsAllowed b h d → c.number ≤ d.number → Extends c.tables d.tables
allowed_extends b h c d l p (inl q) le = let old : d.number ≡ age_of b = ap (λ (z : Cut). z.number) q.0 in let above : age_of b < c.number = above_opened b h c l p in absurd (omega arith)
allowed_extends b h c d l p (inr q) le = began_extends b h c d l p (has_begun b h d q) le

-- an allowed cut extends the tables where an acknowledged commit began
pub acknowledged_extends : (b : Basis) (h front : List Entry) (n : ℕ) (k : IsAcknowledged h front n) (c : Cut) → IsStart b → IsLegal b h → IsAllowed b h c → Extends (after b front) c.tables
acknowledged_extends b h front n k c start l allowed =
    allowed_extends b h (cut_at b front n) c l (record { before = front; began = k.began; rest = k.between ++ k.ended ∷ k.rest; there = k.there; deed = k.begins; tables = refl }) allowed (acknowledged_newest b h front n k c start l allowed)
