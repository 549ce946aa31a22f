-- The entry of a call fits where it is filed.
use Rattle.std.proofs.Common.{◌≡◌, ◌≢◌, ◌≤◌, ◌<◌, ◌^◌, ◌+◌, ◌==◌, ℕ, true, ltb, List, [], ◌∷◌, length, Option, Some, None, Result, Ok, Err, refl, sym, ap, subst, arith}
use Rattle.std.specs.Prelude.{◌&&◌, not, All}
use Rattle.std.specs.Bool.{⊤}
use Rattle.std.proofs.lemmas.Bool.{and_parts, eqb-false, ltb-true, ltb-false, not-true}
use Rattle.std.proofs.lemmas.Option.{same_Some}
use Rattle.std.proofs.lemmas.List.Elements.{All-cons, All-nil}
use Rattle.leaf_grammar.specs.declared.grammar.Space.{Space}
use Rattle.leaf_grammar.specs.declared.grammar.Space.TheVariants as leaf
use Rattle.leaf_grammar.specs.declared.grammar.Leaf.{Leaf}
use Rattle.leaf_grammar.specs.declared.grammar.Malformed as malformed
use Rattle.leaf_grammar.specs.Leaf.{leaf_of}
use Rattle.leaf_grammar.proofs.Rooms.{leaf_room, ok_is}
use Rattle.index_fields.specs.Fields.{count_in, missing}
use Rattle.record_table.specs.declared.fault.AddFault.{AddFault}
use Rattle.record_table.specs.declared.fault.AddFault.TheVariants as add_fault
use Rattle.record_table.specs.Table as records
use Rattle.names_table.specs.declared.fault.NameFault.{NameFault}
use Rattle.names_table.specs.declared.fault.NameFault.TheVariants as name_fault
use Rattle.names_table.specs.Names as strings
use Rattle.srv_edge.specs.declared.failed.Refusal.{Refusal}
use Rattle.srv_edge.specs.declared.failed.Refusal.TheVariants as refusal
use Rattle.turnstile.specs.declared.history.Entry.{Entry}
use Rattle.turnstile.specs.declared.history.Basis.{Basis}
use Rattle.call_journal.specs.declared.deed.TableKind.{TableKind}
use Rattle.call_journal.specs.declared.deed.TableKind.TheVariants.{Types, Items, Names}
use Rattle.call_journal.specs.declared.deed.Limit.{Limit}
use Rattle.call_journal.specs.declared.deed.Limit.TheVariants as limit
use Rattle.call_journal.specs.declared.deed.Deed.{Deed}
use Rattle.call_journal.specs.declared.deed.Deed.TheVariants.{Added, Asked, Counted, NotGiven, Full, Began, Ended, Underway}
use Rattle.call_journal.specs.Words.{IsDeed}
use Rattle.table_model.specs.declared.call.Call.{Call}
use Rattle.table_model.specs.declared.call.Call.TheVariants.{AddType, AddItem, AddName, GetType, GetItem, GetName, Counts}
use Rattle.table_model.specs.declared.call.Outcome.{Outcome}
use Rattle.record_table.specs.Table.{WithinLimits}
use Rattle.table_model.specs.Tables.{Tables, answer_of_add, answer_of_name, answer_to_bytes, answer_to_leaf, answer_to_name, answer_to_record, item_count, space_number, type_count}
use Rattle.table_model.specs.Calls.{answer, are_bytes, has_no_nul, index_answer, is_call}
use Rattle.core_model.specs.History.{DeedFits, IsAnswered, IsRefusedFull, IsStart, NamesNothing, PassesLimit, Standing, after_deed}
use Rattle.core_model.specs.Entries.{entry_of, entry_of_add, entry_of_call, entry_of_read, table_of_space}
use Rattle.core_model.proofs.Missing.{IsMissing, is_missing}
use Rattle.table_model.proofs.Records as record_lemmas
use Rattle.core_model.proofs.Sound.{IsOf, IsSound, is_of}
use Rattle.table_model.proofs.Strings as string_lemmas

-- a deed that begins and ends no commit
abbrev pub IsQuiet : Deed → Type 0
IsQuiet (Added table at) = ⊤
IsQuiet (Asked table at) = ⊤
IsQuiet Counted = ⊤
IsQuiet (NotGiven index space table) = ⊤
IsQuiet (Full size limit table) = ⊤
IsQuiet (Began number) = ⊥
IsQuiet (Ended number acknowledged) = ⊥
IsQuiet (Underway number) = ⊤

pub quiet_keeps : (s : Standing) (c : ℕ) (deed : Deed) (bytes : List ℕ) → IsQuiet deed → (after_deed s c (Some deed) bytes).under_way ≡ s.under_way
quiet_keeps s c (Added table at) bytes q = refl
quiet_keeps s c (Asked table at) bytes q = refl
quiet_keeps s c Counted bytes q = refl
quiet_keeps s c (NotGiven index space table) bytes q = refl
quiet_keeps s c (Full size limit table) bytes q = refl
quiet_keeps s c (Began number) bytes q = absurd q
quiet_keeps s c (Ended number acknowledged) bytes q = absurd q
quiet_keeps s c (Underway number) bytes q = refl

pub quiet_no_end : (deed : Deed) (m : ℕ) → IsQuiet deed → Some deed ≡ Some (Ended m true) → ⊥
quiet_no_end deed m q e = let same : Ended m true ≡ deed = cc in subst IsQuiet (sym same) q

-- the entry of a caller that fits where things stand so, and neither begins nor ends a commit
pub record IsCallEntry (s : Standing) (c : ℕ) (e : Entry) : Type 0 where
  pub deed : Deed
  pub is : IsOf c deed e
  pub bytes : are_bytes e.brought ≡ true
  pub fits : DeedFits s c (Some deed) e.brought
  pub quiet : IsQuiet deed

filed : (s : Standing) (c : ℕ) (deed : Deed) (bytes : List ℕ) (e : Entry) → c < 256 → IsDeed deed → are_bytes bytes ≡ true → DeedFits s c (Some deed) bytes → IsQuiet deed → Some (entry_of c deed bytes) ≡ Some e → IsCallEntry s c e
filed s c deed bytes e few small are f q eq = subst (IsCallEntry s c) (same_Some (entry_of c deed bytes) e eq) (record { deed = deed; is = is_of c deed bytes few small; bytes = are; fits = f; quiet = q })

-- that of a get or counts
read : (s : Standing) (c : ℕ) (deed : Deed) (reply : Result Outcome Refusal) (e : Entry) → c < 256 → IsDeed deed → DeedFits s c (Some deed) [] → IsQuiet deed → entry_of_read c deed reply ≡ Some e → IsCallEntry s c e
read s c deed (Err refusal.OutOfMemory) e few small f q eq = absurd (cc)
read s c deed (Err (refusal.Malformed at what)) e few small f q eq = filed s c deed [] e few small refl f q eq
read s c deed (Err (refusal.NotGiven space index)) e few small f q eq = filed s c deed [] e few small refl f q eq
read s c deed (Err (refusal.Full which needed)) e few small f q eq = filed s c deed [] e few small refl f q eq
read s c deed (Err (refusal.Underway number)) e few small f q eq = filed s c deed [] e few small refl f q eq
read s c deed (Err (refusal.DiskFault number)) e few small f q eq = filed s c deed [] e few small refl f q eq
read s c deed (Ok outcome) e few small f q eq = filed s c deed [] e few small refl f q eq

-- an add of a record to the table of its space
record IsTableOf (s : Standing) (space : Space) (t : records.Table) (table : TableKind) : Type 0 where
  answered : (r : List ℕ) (at : ℕ) → answer_to_record space t (type_count s.tables) (item_count s.tables) r ≡ Ok at → IsAnswered s.tables table at r
  full : (which : Limit) (size : ℕ) → PassesLimit t which size → IsRefusedFull s.tables table which size
  not_names : table ≢ Names
  within : WithinLimits t
  few : t.max_records ≤ 2 ^ 23

names_nothing : (x : Tables) (space : Space) (index : ℕ) → 4096 + count_in space (type_count x) (item_count x) ≤ index → NamesNothing x (table_of_space (space_number space)) index
names_nothing x leaf.Types index past = past
names_nothing x leaf.Items index past = past

record_fits : (s : Standing) (c : ℕ) (space : Space) (t : records.Table) (table : TableKind) (r : List ℕ) (e : Entry) → c < 256 → are_bytes r ≡ true → IsTableOf s space t table →
    entry_of_add c table r (index_answer (answer_to_record space t (type_count s.tables) (item_count s.tables) r)) ≡ Some e → IsCallEntry s c e
record_fits s c space t table r e few bytes k eq = go (leaf_of space r) (missing space r (type_count s.tables) (item_count s.tables)) (records.answer_to_add t r) refl refl refl refl eq where
  long : (l : Leaf) → leaf_of space r ≡ Ok l → length r < 2 ^ 32
  long l p = let room = leaf_room space r (ok_is (leaf_of space r) l p) in omega (arith, room.longest)

  go : (l : Result Leaf malformed.Malformed) (m : Option (Space × ℕ)) (a : Result ℕ AddFault) → leaf_of space r ≡ l → missing space r (type_count s.tables) (item_count s.tables) ≡ m → records.answer_to_add t r ≡ a →
      answer_to_record space t (type_count s.tables) (item_count s.tables) r ≡ answer_to_bytes l (answer_to_leaf m (answer_of_add a t.max_records)) →
      entry_of_add c table r (index_answer (answer_to_bytes l (answer_to_leaf m (answer_of_add a t.max_records)))) ≡ Some e → IsCallEntry s c e
  go (Err wrong) m a p q u whole eq = absurd (cc)
  go (Ok l) (Some f) a p q u whole eq =
      let gone : IsMissing (type_count s.tables) (item_count s.tables) f = is_missing space r (type_count s.tables) (item_count s.tables) f bytes q in
      filed s c (NotGiven f.1 (table_of_space (space_number f.0)) table) [] e few gone.small refl (refl, names_nothing s.tables f.0 f.1 gone.past, k.not_names) tt eq
  go (Ok l) None (Err add_fault.Records) p q u whole eq = filed s c (Full (length r) limit.Records table) [] e few (long l p) refl (refl, k.full limit.Records (length r) (record_lemmas.no_records t r u)) tt eq
  go (Ok l) None (Err (add_fault.Bytes n)) p q u whole eq = filed s c (Full (length r) limit.Bytes table) [] e few (long l p) refl (refl, k.full limit.Bytes (length r) (record_lemmas.no_bytes t r n u)) tt eq
  go (Ok l) None (Err add_fault.OutOfMemory) p q u whole eq = absurd (cc)
  go (Ok l) None (Ok at) p q u whole eq = filed s c (Added table at) r e few (record_lemmas.small_index t r at u k.within k.few) bytes (k.answered r at whole) tt eq

-- an add of a name
no_nul : (name : List ℕ) → has_no_nul name ≡ true → All (λ b. b ≢ 0) name
no_nul [] is = All-nil (λ b. b ≢ 0)
no_nul (b ∷ name) is =
    let p = and_parts (not (b == 0)) (has_no_nul name) is in
    All-cons (λ b. b ≢ 0) b name (eqb-false b 0 (not-true (b == 0) p.0)) (no_nul name p.1)

name_bytes : (name : List ℕ) → is_call (AddName name) ≡ true → are_bytes name ≡ true
name_bytes name is = (and_parts (are_bytes name) (has_no_nul name) (and_parts (are_bytes name && has_no_nul name) (not (ltb 65535 (length name))) is).0).0

is_name : (name : List ℕ) → is_call (AddName name) ≡ true → strings.IsName name
is_name name is =
    let p = and_parts (are_bytes name && has_no_nul name) (not (ltb 65535 (length name))) is in
    let q = and_parts (are_bytes name) (has_no_nul name) p.0 in
    record { longest = ltb-false 65535 (length name) (not-true (ltb 65535 (length name)) p.1); no_nul = no_nul name q.1 }

name_fits : (s : Standing) (c : ℕ) (name : List ℕ) (e : Entry) → c < 256 → are_bytes name ≡ true → strings.IsName name → strings.bytes_of s.tables.names.names ≤ s.tables.names.max_bytes → s.tables.names.max_bytes ≤ 2 ^ 28 →
    entry_of_add c Names name (index_answer (answer_to_name s.tables.names name)) ≡ Some e → IsCallEntry s c e
name_fits s c name e few bytes is within short eq = go (strings.answer_to_add s.tables.names name) refl refl eq where
  go : (a : Result ℕ NameFault) → strings.answer_to_add s.tables.names name ≡ a → answer_to_name s.tables.names name ≡ answer_of_name a →
      entry_of_add c Names name (index_answer (answer_of_name a)) ≡ Some e → IsCallEntry s c e
  go (Ok at) u whole eq = filed s c (Added Names at) name e few (string_lemmas.small_offset s.tables.names name at u within short) bytes (is, whole) tt eq
  go (Err (name_fault.Full n)) u whole eq = filed s c (Full (length name) limit.Names Names) [] e few (omega (arith, is.longest)) refl (refl, string_lemmas.no_room s.tables.names name n u) tt eq
  go (Err name_fault.OutOfMemory) u whole eq = absurd (cc)

-- the entry of any call
pub call_fits : (b : Basis) (s : Standing) (c : ℕ) (call : Call) (e : Entry) → c < 256 → is_call call ≡ true → IsStart b → IsSound b s → entry_of_call c call (answer s.tables call) ≡ Some e → IsCallEntry s c e
call_fits b s c (AddType r) e few is start i eq =
    record_fits s c leaf.Types s.tables.types Types r e few is
    (record { answered = λ r at a. a; full = λ which size p. p; not_names = λ n. absurd (cc); within = i.within.few_types; few = omega (arith, ap (λ (t : records.Table). t.max_records) i.within.types, start.few_records) }) eq
call_fits b s c (AddItem r) e few is start i eq =
    record_fits s c leaf.Items s.tables.items Items r e few is
    (record { answered = λ r at a. a; full = λ which size p. p; not_names = λ n. absurd (cc); within = i.within.few_items; few = omega (arith, ap (λ (t : records.Table). t.max_records) i.within.items, start.few_records) }) eq
call_fits b s c (AddName name) e few is start i eq =
    name_fits s c name e few (name_bytes name is) (is_name name is) i.within.few_names (omega (arith, ap (λ (t : strings.Names). t.max_bytes) i.within.names, start.few_name_bytes)) eq
call_fits b s c (GetType index) e few is start i eq = read s c (Asked Types index) (answer s.tables (GetType index)) e few (ltb-true index (2 ^ 32) is) refl tt eq
call_fits b s c (GetItem index) e few is start i eq = read s c (Asked Items index) (answer s.tables (GetItem index)) e few (ltb-true index (2 ^ 32) is) refl tt eq
call_fits b s c (GetName offset) e few is start i eq = read s c (Asked Names offset) (answer s.tables (GetName offset)) e few (ltb-true offset (2 ^ 32) is) refl tt eq
call_fits b s c Counts e few is start i eq = read s c Counted (answer s.tables Counts) e few (omega arith) refl tt eq
