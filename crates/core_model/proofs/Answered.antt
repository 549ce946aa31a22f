-- Adds that were answered, and the tables that they leave.
use Rattle.std.proofs.Common.{◌≡◌, ◌≤◌, ◌==◌, ℕ, Bool, true, false, cond, List, length, Option, Some, None, Result, Ok, Err, refl, ap, ◌∙◌, arith}
use Rattle.std.specs.Prelude.{◌&&◌, is_ok, is_none}
use Rattle.leaf_grammar.specs.declared.grammar.Space.{Space}
use Rattle.leaf_grammar.specs.declared.grammar.Space.TheVariants as leaf
use Rattle.leaf_grammar.specs.declared.grammar.Leaf.{Leaf}
use Rattle.leaf_grammar.specs.declared.grammar.Malformed as malformed
use Rattle.leaf_grammar.specs.Leaf.{leaf_of}
use Rattle.index_fields.specs.Fields.{missing}
use Rattle.record_table.specs.declared.fault.AddFault.{AddFault}
use Rattle.record_table.specs.declared.fault.AddFault.TheVariants as add_fault
use Rattle.record_table.specs.Table as records
use Rattle.names_table.specs.declared.fault.NameFault.{NameFault}
use Rattle.names_table.specs.declared.fault.NameFault.TheVariants as name_fault
use Rattle.names_table.specs.Names as strings
use Rattle.turnstile.specs.declared.history.Basis.{Basis}
use Rattle.call_journal.specs.declared.deed.TableKind.{TableKind}
use Rattle.call_journal.specs.declared.deed.TableKind.TheVariants.{Types, Items, Names}
use Rattle.record_table.specs.Table.{WithinLimits}
use Rattle.table_model.specs.Tables.{Tables, answer_of_add, answer_of_name, answer_to_bytes, answer_to_leaf, answer_to_name, answer_to_record, item_count, table_after, type_count}
use Rattle.core_model.specs.History.{IsAnswered, IsStart, most_name_bytes, names_version, opened_tables, limited_table, with_added}
use Rattle.table_model.proofs.Records as record_lemmas
use Rattle.table_model.proofs.Strings as string_lemmas

-- a record that was answered with an index: it is a leaf that names records, and its table gave the index
pub record IsTaken (space : Space) (t : records.Table) (types items : ℕ) (r : List ℕ) (at : ℕ) : Type 0 where
  pub leaf : is_ok (leaf_of space r) ≡ true
  pub names_records : missing space r types items ≡ None
  pub add : records.answer_to_add t r ≡ Ok at

pub is_taken : (space : Space) (t : records.Table) (types items : ℕ) (r : List ℕ) (at : ℕ) → answer_to_record space t types items r ≡ Ok at → IsTaken space t types items r at
is_taken space t types items r at e = go (leaf_of space r) (missing space r types items) (records.answer_to_add t r) refl refl refl e where
  go : (l : Result Leaf malformed.Malformed) (m : Option (Space × ℕ)) (a : Result ℕ AddFault) → leaf_of space r ≡ l → missing space r types items ≡ m → records.answer_to_add t r ≡ a →
      answer_to_bytes l (answer_to_leaf m (answer_of_add a t.max_records)) ≡ Ok at → IsTaken space t types items r at
  go (Err wrong) m a p q s e = absurd (grind arith)
  go (Ok l) (Some f) a p q s e = absurd (grind arith)
  go (Ok l) None (Err add_fault.Records) p q s e = absurd (grind arith)
  go (Ok l) None (Err (add_fault.Bytes n)) p q s e = absurd (grind arith)
  go (Ok l) None (Err add_fault.OutOfMemory) p q s e = absurd (grind arith)
  go (Ok l) None (Ok i) p q s e = let same : i ≡ at = grind arith in record { leaf = ap is_ok p; names_records = q; add = s ∙ ap Ok same }

-- its table is the one that grew by it
pub table_of_taken : (space : Space) (t : records.Table) (types items : ℕ) (r : List ℕ) (at : ℕ) → IsTaken space t types items r at → table_after space t types items r ≡ record_lemmas.grown t at r
table_of_taken space t types items r at k = comes (is_ok (leaf_of space r)) (is_none (missing space r types items)) k.leaf (ap is_none k.names_records) ∙ record_lemmas.after_answered t r at k.add where
  comes : (a b : Bool) → a ≡ true → b ≡ true → cond (a && b) (records.after_add t r) t ≡ records.after_add t r
  comes a b p q = rw (p, q) refl

pub name_is_taken : (t : strings.Names) (name : List ℕ) (at : ℕ) → answer_to_name t name ≡ Ok at → strings.answer_to_add t name ≡ Ok at
name_is_taken t name at e = go (strings.answer_to_add t name) refl e where
  go : (a : Result ℕ NameFault) → strings.answer_to_add t name ≡ a → answer_of_name a ≡ Ok at → strings.answer_to_add t name ≡ Ok at
  go (Ok i) p e = let same : i ≡ at = grind arith in p ∙ ap Ok same
  go (Err (name_fault.Full n)) p e = absurd (grind arith)
  go (Err name_fault.OutOfMemory) p e = absurd (grind arith)

-- the tables with one of them grown
pub added_types : (x : Tables) (at : ℕ) (r : List ℕ) → with_added x Types at r ≡ record x { types = record_lemmas.grown x.types at r }
added_types x at r = go (at == records.index_at (type_count x)) where
  go : (b : Bool) → cond b (record x { types = records.appended x.types r }) x ≡ record x { types = cond b (records.appended x.types r) x.types }
  go true = refl
  go false = refl

pub added_items : (x : Tables) (at : ℕ) (r : List ℕ) → with_added x Items at r ≡ record x { items = record_lemmas.grown x.items at r }
added_items x at r = go (at == records.index_at (item_count x)) where
  go : (b : Bool) → cond b (record x { items = records.appended x.items r }) x ≡ record x { items = cond b (records.appended x.items r) x.items }
  go true = refl
  go false = refl

pub added_names : (x : Tables) (at : ℕ) (name : List ℕ) → with_added x Names at name ≡ record x { names = string_lemmas.grown x.names at name }
added_names x at name = go (at == strings.bytes_of x.names.names) where
  go : (b : Bool) → cond b (record x { names = string_lemmas.with_name x.names name }) x ≡ record x { names = cond b (string_lemmas.with_name x.names name) x.names }
  go true = refl
  go false = refl

-- a table of names within the limit of a basis
abbrev pub names_of : Basis → List (List ℕ) → strings.Names
names_of b list = record { max_bytes = most_name_bytes b; version = names_version b; names = list }

-- the tables have the limits of the basis, and are within them
pub record IsWithin (b : Basis) (x : Tables) : Type 0 where
  pub types : x.types ≡ limited_table b x.types.records
  pub items : x.items ≡ limited_table b x.items.records
  pub names : x.names ≡ names_of b x.names.names
  pub few_types : WithinLimits x.types
  pub few_items : WithinLimits x.items
  pub few_names : strings.bytes_of x.names.names ≤ x.names.max_bytes

pub within_opened : (b : Basis) → IsStart b → IsWithin b (opened_tables b)
within_opened b s = record { types = refl; items = refl; names = refl; few_types = s.types; few_items = s.items; few_names = s.names }

limits_kept : (b : Basis) (t : records.Table) (at : ℕ) (r : List ℕ) → t ≡ limited_table b t.records → record_lemmas.grown t at r ≡ limited_table b (record_lemmas.grown t at r).records
limits_kept b t at r e = go (at == records.index_at (length t.records)) where
  go : (c : Bool) → cond c (records.appended t r) t ≡ limited_table b (cond c (records.appended t r) t).records
  go true = ap (λ z. records.appended z r) e
  go false = e

names_kept : (b : Basis) (t : strings.Names) (at : ℕ) (name : List ℕ) → t ≡ names_of b t.names → string_lemmas.grown t at name ≡ names_of b (string_lemmas.grown t at name).names
names_kept b t at name e = go (at == strings.bytes_of t.names) where
  go : (c : Bool) → cond c (string_lemmas.with_name t name) t ≡ names_of b (cond c (string_lemmas.with_name t name) t).names
  go true = ap (λ z. string_lemmas.with_name z name) e
  go false = e

-- an answered add leaves tables within their limits
pub within_added : (b : Basis) (x : Tables) (table : TableKind) (at : ℕ) (bytes : List ℕ) → IsAnswered x table at bytes → IsWithin b x → IsWithin b (with_added x table at bytes)
within_added b x Types at r a w =
    let k = is_taken leaf.Types x.types (type_count x) (item_count x) r at a in
    rw (added_types x at r) (record { types = limits_kept b x.types at r w.types; items = w.items; names = w.names; few_types = record_lemmas.within_grown x.types r at k.add w.few_types; few_items = w.few_items; few_names = w.few_names })
within_added b x Items at r a w =
    let k = is_taken leaf.Items x.items (type_count x) (item_count x) r at a in
    rw (added_items x at r) (record { types = w.types; items = limits_kept b x.items at r w.items; names = w.names; few_types = w.few_types; few_items = record_lemmas.within_grown x.items r at k.add w.few_items; few_names = w.few_names })
within_added b x Names at name a w =
    let k : strings.answer_to_add x.names name ≡ Ok at = name_is_taken x.names name at a.1 in
    let e : (string_lemmas.grown x.names at name).max_bytes ≡ x.names.max_bytes = go (at == strings.bytes_of x.names.names) in
    rw (added_names x at name) (record { types = w.types; items = w.items; names = names_kept b x.names at name w.names; few_types = w.few_types; few_items = w.few_items; few_names = omega (arith, string_lemmas.within_grown x.names name at k w.few_names) }) where
      go : (c : Bool) → (cond c (string_lemmas.with_name x.names name) x.names).max_bytes ≡ x.names.max_bytes
      go true = refl
      go false = refl
