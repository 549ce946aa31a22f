-- The entry of an add, and the tables behind it, which are those that the add leaves.
use Rattle.std.proofs.Common.{◌≡◌, ◌≢◌, ◌<◌, ℕ, true, cond, List, [], ◌∷◌, ◌++◌, length, Option, Some, None, Result, Ok, Err, refl, sym, ap, ◌∙◌, get_or, ltb, suc, ◌==◌}
use Rattle.std.specs.Prelude.{◌&&◌, is_ok, is_none, not, All}
use Rattle.std.specs.Option.{option_map, unwrap_or}
use Rattle.std.proofs.lemmas.Bool.{and_from, le-ltb, lt-ltb, ne_eqb}
use Rattle.std.proofs.lemmas.List.Elements.{All-head, All-tail}
use Rattle.leaf_grammar.specs.declared.grammar.Space.{Space}
use Rattle.leaf_grammar.specs.declared.grammar.Space.TheVariants as leaf
use Rattle.leaf_grammar.specs.declared.grammar.Leaf.{Leaf}
use Rattle.leaf_grammar.specs.declared.grammar.Malformed as malformed
use Rattle.leaf_grammar.specs.Leaf.{leaf_of}
use Rattle.index_fields.specs.Fields.{missing}
use Rattle.record_table.specs.declared.fault.AddFault.{AddFault}
use Rattle.record_table.specs.Table as records
use Rattle.names_table.specs.declared.fault.NameFault.{NameFault}
use Rattle.names_table.specs.Names as strings
use Rattle.srv_edge.specs.declared.failed.Refusal.{Refusal}
use Rattle.srv_edge.specs.declared.failed.Refusal.TheVariants as refusal
use Rattle.turnstile.specs.declared.history.Entry.{Entry}
use Rattle.turnstile.specs.declared.history.Basis.{Basis}
use Rattle.call_journal.specs.declared.deed.TableKind.{TableKind}
use Rattle.call_journal.specs.declared.deed.TableKind.TheVariants.{Types, Items, Names}
use Rattle.call_journal.specs.declared.deed.Deed.{Deed}
use Rattle.call_journal.specs.declared.deed.Deed.TheVariants.{Added}
use Rattle.call_journal.specs.Words.{IsDeed}
use Rattle.call_journal.proofs.Decoding.{deed_of_word}
use Rattle.table_model.specs.declared.call.Outcome.TheVariants as outcome
use Rattle.table_model.specs.Tables.{Tables, answer_of_add, answer_of_name, answer_to_bytes, answer_to_leaf, answer_to_name, answer_to_record, item_count, table_after, type_count}
use Rattle.table_model.specs.Calls.{answer, are_bytes, has_no_nul, index_answer, is_call, tables_after}
use Rattle.core_model.specs.Entries.{entry_of, entry_of_add, entry_of_call}
use Rattle.hub.specs.Calls.{IsAddable, deed_of_add}
use Rattle.core_model.specs.History.{IsLegal, after}
use Rattle.core_model.specs.Law.{add_to}
use Rattle.core_model.proofs.Replying.{tables_of_other, tables_of_reply}

-- ---- a refused add leaves its table

refused_record : (space : Space) (t : records.Table) (types items : ℕ) (r : List ℕ) (why : Refusal) → answer_to_record space t types items r ≡ Err why → table_after space t types items r ≡ t
refused_record space t types items r why e = go (leaf_of space r) (missing space r types items) (records.index_of t r) (records.answer_to_new t r) e where
  go : (l : Result Leaf malformed.Malformed) (m : Option (Space × ℕ)) (o : Option ℕ) (n : Result ℕ AddFault) →
      answer_to_bytes l (answer_to_leaf m (answer_of_add (unwrap_or (option_map Ok o) n) t.max_records)) ≡ Err why → cond (is_ok l && is_none m) (cond (is_none o && is_ok n) (records.appended t r) t) t ≡ t
  go (Err wrong) m o n e = refl
  go (Ok l) (Some f) o n e = refl
  go (Ok l) None (Some at) n e = refl
  go (Ok l) None None (Err fault) e = refl
  go (Ok l) None None (Ok at) e = absurd (cc)

refused_name : (t : strings.Names) (name : List ℕ) (why : Refusal) → answer_to_name t name ≡ Err why → strings.after_add t name ≡ t
refused_name t name why e = go (strings.offset_of t name) (strings.answer_to_new t name) e where
  go : (o : Option ℕ) (n : Result ℕ NameFault) → answer_of_name (unwrap_or (option_map Ok o) n) ≡ Err why → cond (is_none o && is_ok n) (record t { names = t.names ++ name ∷ [] }) t ≡ t
  go (Some at) n e = refl
  go None (Err fault) e = refl
  go None (Ok at) e = absurd (cc)

index_ok : (r : Result ℕ Refusal) (at : ℕ) → index_answer r ≡ Ok (outcome.Index at) → r ≡ Ok at
index_ok (Ok n) at e = cc
index_ok (Err why) at e = absurd (cc)

index_err : (r : Result ℕ Refusal) (why : Refusal) → index_answer r ≡ Err why → r ≡ Err why
index_err (Ok n) why e = absurd (cc)
index_err (Err other) why e = cc

pub refused : (x : Tables) (table : TableKind) (bytes : List ℕ) (why : Refusal) → answer x (add_to table bytes) ≡ Err why → tables_after x (add_to table bytes) ≡ x
refused x Types r why e =
    ap (λ (t : records.Table). record x { types = t })
    (refused_record leaf.Types x.types (type_count x) (item_count x) r why (index_err (answer_to_record leaf.Types x.types (type_count x) (item_count x) r) why e))
refused x Items r why e =
    ap (λ (t : records.Table). record x { items = t })
    (refused_record leaf.Items x.items (type_count x) (item_count x) r why (index_err (answer_to_record leaf.Items x.items (type_count x) (item_count x) r) why e))
refused x Names name why e = ap (λ (t : strings.Names). record x { names = t }) (refused_name x.names name why (index_err (answer_to_name x.names name) why e))

-- ---- the entry of an add

-- what an add brings that was answered so
abbrev pub brought_with : List ℕ → Result ℕ Refusal → List ℕ
brought_with bytes (Ok at) = bytes
brought_with bytes (Err why) = []

pub add_entry : (c : ℕ) (table : TableKind) (bytes : List ℕ) (r : Result ℕ Refusal) (deed : Deed) → deed_of_add table (length bytes) r ≡ Some deed → entry_of_call c (add_to table bytes) (index_answer r) ≡ Some (entry_of c deed (brought_with bytes r))
add_entry c table bytes r deed is = to_call table ∙ go r is where
  to_call : (t : TableKind) → entry_of_call c (add_to t bytes) (index_answer r) ≡ entry_of_add c t bytes (index_answer r)
  to_call Types = refl
  to_call Items = refl
  to_call Names = refl

  go : (s : Result ℕ Refusal) → deed_of_add table (length bytes) s ≡ Some deed → entry_of_add c table bytes (index_answer s) ≡ Some (entry_of c deed (brought_with bytes s))
  go (Ok at) e = ap (option_map (λ (d : Deed). entry_of c d bytes)) e
  go (Err (refusal.NotGiven space index)) e = ap (option_map (λ (d : Deed). entry_of c d [])) e
  go (Err (refusal.Full which needed)) e = ap (option_map (λ (d : Deed). entry_of c d [])) e
  go (Err (refusal.Malformed at what)) e = absurd (cc)
  go (Err (refusal.Underway number)) e = absurd (cc)
  go (Err (refusal.DiskFault number)) e = absurd (cc)
  go (Err refusal.OutOfMemory) e = absurd (cc)

-- ---- the tables behind it

no_add : (table other : TableKind) (size at : ℕ) (why : Refusal) → deed_of_add table size (Err why) ≡ Some (Added other at) → ⊥
no_add table other size at (refusal.NotGiven space index) e = cc
no_add table other size at (refusal.Full which needed) e = cc
no_add table other size at (refusal.Malformed place what) e = cc
no_add table other size at (refusal.Underway number) e = cc
no_add table other size at (refusal.DiskFault number) e = cc
no_add table other size at refusal.OutOfMemory e = cc

pub tables_behind : (b : Basis) (h : List Entry) (c : ℕ) (table : TableKind) (bytes : List ℕ) (r : Result ℕ Refusal) (deed : Deed) → IsLegal b (h ++ entry_of c deed (brought_with bytes r) ∷ []) → IsDeed deed →
    deed_of_add table (length bytes) r ≡ Some deed → index_answer r ≡ answer (after b h) (add_to table bytes) → after b (h ++ entry_of c deed (brought_with bytes r) ∷ []) ≡ tables_after (after b h) (add_to table bytes)
tables_behind b h c table bytes (Ok at) deed l small is right = tables_of_reply b h [] (entry_of c deed bytes) table at l (deed_of_word c deed small ∙ sym is)
tables_behind b h c table bytes (Err why) deed l small is right =
    tables_of_other b h (entry_of c deed []) (λ other at eq. no_add table other (length bytes) at why (is ∙ sym (deed_of_word c deed small) ∙ eq)) ∙ sym (refused (after b h) table bytes why (sym right))

-- ---- a call that can be made

pub all_bytes : (bytes : List ℕ) → ((i : ℕ) → get_or bytes i 0 < 256) → are_bytes bytes ≡ true
all_bytes [] f = refl
all_bytes (x ∷ bytes) f = and_from (ltb x 256) (are_bytes bytes) (lt-ltb x 256 (f 0)) (all_bytes bytes (λ i. f (suc i)))

all_no_nul : (bytes : List ℕ) → All (λ x. x ≢ 0) bytes → has_no_nul bytes ≡ true
all_no_nul [] a = refl
all_no_nul (x ∷ bytes) a =
    and_from (not (x == 0)) (has_no_nul bytes) (ap not (ne_eqb x 0 (All-head (λ y. y ≢ 0) x bytes a))) (all_no_nul bytes (All-tail (λ y. y ≢ 0) x bytes a))

pub is_add : (table : TableKind) (bytes : List ℕ) → are_bytes bytes ≡ true → IsAddable table bytes → is_call (add_to table bytes) ≡ true
is_add Types r are ok = are
is_add Items r are ok = are
is_add Names name are ok =
    and_from (are_bytes name && has_no_nul name) (not (ltb 65535 (length name))) (and_from (are_bytes name) (has_no_nul name) are (all_no_nul name ok.no_nul)) (ap not (le-ltb 65535 (length name) ok.longest))
