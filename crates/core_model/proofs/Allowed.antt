-- The cuts that a crash may leave: how they stay allowed, and what each of them is.
use Rattle.std.proofs.Common.{◌≡◌, ◌≢◌, ◌<◌, ◌^◌, ℕ, true, List, [], ◌∷◌, ◌++◌, Some, inl, inr, refl, sym, ap, ◌∙◌, subst, arith}
use Rattle.std.proofs.lemmas.List.{append_assoc}
use Rattle.std.proofs.lemmas.List.Elements.{All-nil, All-push}
use Rattle.turnstile.specs.declared.history.Entry.{Entry}
use Rattle.turnstile.specs.declared.history.Basis.{Basis}
use Rattle.call_journal.specs.declared.deed.Deed.TheVariants.{Began, Ended}
use Rattle.call_journal.specs.Words.{deed_of}
use Rattle.call_journal.proofs.Decoding.{is_deed}
use Rattle.record_table.specs.Table as records
use Rattle.names_table.specs.Names as strings
use Rattle.table_model.specs.Tables.{Tables}
use Rattle.core_model.specs.History.{IsLegal, IsStart, opened_tables, limited_table}
use Rattle.core_model.specs.Cuts.{BeganAt, IsAllowed, cut_at, opened_cut}
use Rattle.table_model.specs.Cut.{Cut}
use Rattle.core_model.specs.World.{basis_of}
use Rattle.core_model.proofs.Answered.{IsWithin, names_of, within_opened}
use Rattle.core_model.proofs.Growing.{legal_before}
use Rattle.core_model.proofs.Sound.{sound_standing}

-- the entry acknowledges no other commit than the one of this number
abbrev pub IsNoOther : ℕ → Entry → Type 0
IsNoOther number e = (m : ℕ) → deed_of e.word ≡ Some (Ended m true) → m ≡ number

-- the entry acknowledges no commit
abbrev pub IsNoEnd : Entry → Type 0
IsNoEnd e = (m : ℕ) → deed_of e.word ≢ Some (Ended m true)

-- a cut that began stays allowed until another commit is acknowledged
pub began_more : (b : Basis) (h : List Entry) (c : Cut) (e : Entry) → IsNoOther c.number e → BeganAt b h c → BeganAt b (h ++ e ∷ []) c
began_more b h c e other p = record {
  before = p.before;
  began = p.began;
  rest = p.rest ++ e ∷ [];
  there = ap (λ z. z ++ e ∷ []) p.there ∙ append_assoc p.before (p.began ∷ p.rest) (e ∷ []);
  deed = p.deed;
  tables = p.tables;
  newest = All-push (IsNoOther c.number) p.rest e p.newest other;
}

-- each cut stays allowed until a commit is acknowledged
pub allowed_more : (b : Basis) (h : List Entry) (c : Cut) (e : Entry) → IsNoEnd e → IsAllowed b h c → IsAllowed b (h ++ e ∷ []) c
allowed_more b h c e none (inl p) = inl (p.0, All-push IsNoEnd h e p.1 none)
allowed_more b h c e none (inr p) = inr (began_more b h c e (λ m is. absurd (none m is)) p)

-- the cut of a commit is that of its first entry
pub began_here : (b : Basis) (h : List Entry) (number : ℕ) (e : Entry) → deed_of e.word ≡ Some (Began number) → BeganAt b (h ++ e ∷ []) (cut_at b h number)
began_here b h number e is = record { before = h; began = e; rest = []; there = refl; deed = is; tables = refl; newest = All-nil (IsNoOther number) }

pub allowed_opened : (b : Basis) → IsAllowed b [] (opened_cut b)
allowed_opened b = inl (refl, All-nil IsNoEnd)

-- a cut that a file can hold: tables within the limits, and a number of 32 bits
pub record IsCut (b : Basis) (c : Cut) : Type 0 where
  pub number : c.number < 2 ^ 32
  pub within : IsWithin b c.tables

pub is_cut : (b : Basis) (h : List Entry) (c : Cut) → IsStart b → IsLegal b h → IsAllowed b h c → IsCut b c
is_cut b h c start l (inl p) = subst (IsCut b) (sym p.0) (record { number = start.age; within = within_opened b start })
is_cut b h c start l (inr p) =
    let short : IsLegal b p.before = legal_before b p.before h l (record { rest = p.began ∷ p.rest; whole = p.there }) in
    record { number = is_deed p.began.word (Began c.number) p.deed; within = subst (IsWithin b) (sym p.tables) (sound_standing b p.before start short).within }

-- the file that holds it is opened on it

made : (t t' i i' : records.Table) (n n' : strings.Names) → t ≡ t' → i ≡ i' → n ≡ n' → ◌≡◌ {A = Tables} (record { types = t; items = i; names = n }) (record { types = t'; items = i'; names = n' })
made t t' i i' n n' p q r = cc

same_tables : (b : Basis) (c : Cut) (others : List ℕ) → IsWithin b c.tables → opened_tables (basis_of b c others) ≡ c.tables
same_tables b c others w =
    let x = c.tables in
    made (limited_table b x.types.records) x.types (limited_table b x.items.records) x.items (names_of b x.names.names) x.names (sym w.types) (sym w.items) (sym w.names)

pub opens_cut : (b : Basis) (c : Cut) (others : List ℕ) → IsWithin b c.tables → opened_cut (basis_of b c others) ≡ c
opens_cut b c others w = ap (λ (x : Tables). record { number = c.number; tables = x }) (same_tables b c others w)

pub opens_start : (b : Basis) (c : Cut) (others : List ℕ) → IsStart b → IsCut b c → IsStart (basis_of b c others)
opens_start b c others start k = record {
  age = k.number;
  few_records = start.few_records;
  few_bytes = start.few_bytes;
  few_name_bytes = start.few_name_bytes;
  types = rw (← k.within.types) k.within.few_types;
  items = rw (← k.within.items) k.within.few_items;
  names = let e = ap (λ n. n.max_bytes) k.within.names in omega (arith, k.within.few_names);
}
