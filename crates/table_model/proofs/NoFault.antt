-- The answers of an add: none is a fault of the disk.
use Rattle.std.proofs.Common.{ℕ, List, Option, None, Some, Result, Ok, Err, sym, subst, ⊎_elim}
use Rattle.leaf_grammar.specs.declared.grammar.Space.{Space}
use Rattle.leaf_grammar.specs.declared.grammar.Leaf.{Leaf}
use Rattle.leaf_grammar.specs.declared.grammar.Malformed as malformed
use Rattle.leaf_grammar.specs.Leaf.{leaf_of}
use Rattle.index_fields.specs.Fields.{missing}
use Rattle.record_table.specs.declared.fault.AddFault.{AddFault}
use Rattle.record_table.specs.declared.fault.AddFault.TheVariants as add_fault
use Rattle.record_table.specs.Table as records
use Rattle.names_table.specs.declared.fault.NameFault.{NameFault}
use Rattle.names_table.specs.declared.fault.NameFault.TheVariants as name_fault
use Rattle.names_table.specs.Names as strings
use Rattle.srv_edge.specs.declared.failed.Refusal.{Refusal}
use Rattle.srv_edge.specs.declared.failed.Refusal.TheVariants.{Malformed, NotGiven, Full, Underway, DiskFault, OutOfMemory}
use Rattle.table_model.specs.Tables.{AddsName, AddsRecord, answer_of_add, answer_of_name, answer_to_bytes, answer_to_leaf, answer_to_record}

-- an answer that is no fault of the disk
abbrev pub IsNoFault : Result ℕ Refusal → Type 0
IsNoFault (Ok n) = Unit {0}
IsNoFault (Err (Malformed at what)) = Unit {0}
IsNoFault (Err (NotGiven space index)) = Unit {0}
IsNoFault (Err (Full which needed)) = Unit {0}
IsNoFault (Err (Underway number)) = Unit {0}
IsNoFault (Err (DiskFault number)) = ⊥
IsNoFault (Err OutOfMemory) = Unit {0}

no_fault_add : (r : Result ℕ AddFault) (most : ℕ) → IsNoFault (answer_of_add r most)
no_fault_add (Ok index) most = tt
no_fault_add (Err add_fault.Records) most = tt
no_fault_add (Err (add_fault.Bytes needed)) most = tt
no_fault_add (Err add_fault.OutOfMemory) most = tt

no_fault_leaf : (field : Option (Space × ℕ)) (r : Result ℕ Refusal) → IsNoFault r → IsNoFault (answer_to_leaf field r)
no_fault_leaf (Some field) r h = tt
no_fault_leaf None r h = h

no_fault_bytes : (leaf : Result Leaf malformed.Malformed) (r : Result ℕ Refusal) → IsNoFault r → IsNoFault (answer_to_bytes leaf r)
no_fault_bytes (Ok leaf) r h = h
no_fault_bytes (Err wrong) r h = tt

no_fault_record : (space : Space) (table : records.Table) (types items : ℕ) (r : List ℕ) → IsNoFault (answer_to_record space table types items r)
no_fault_record space table types items r =
    no_fault_bytes (leaf_of space r) (answer_to_leaf (missing space r types items) (answer_of_add (records.answer_to_add table r) table.max_records))
    (no_fault_leaf (missing space r types items) (answer_of_add (records.answer_to_add table r) table.max_records) (no_fault_add (records.answer_to_add table r) table.max_records))

pub adds_no_fault : (space : Space) (table : records.Table) (types items : ℕ) (r : List ℕ) (result : Result ℕ Refusal) (new : records.Table)
    → AddsRecord space types items table r result new → IsNoFault result
adds_no_fault space table types items r result new =
    ⊎_elim (λ did. subst IsNoFault (sym did.0) (no_fault_record space table types items r)) (λ wants. subst IsNoFault (sym wants.0) tt)

no_fault_name : (r : Result ℕ NameFault) → IsNoFault (answer_of_name r)
no_fault_name (Ok offset) = tt
no_fault_name (Err (name_fault.Full needed)) = tt
no_fault_name (Err name_fault.OutOfMemory) = tt

pub name_no_fault : (names : strings.Names) (name : List ℕ) (result : Result ℕ Refusal) (new : strings.Names) → AddsName names name result new → IsNoFault result
name_no_fault names name result new =
    ⊎_elim (λ did. subst IsNoFault (sym did.0) (no_fault_name (strings.answer_to_add names name))) (λ wants. subst IsNoFault (sym wants.0) tt)
