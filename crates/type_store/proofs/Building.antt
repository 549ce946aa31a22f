-- Edits that are made of the parts of a text.
use Rattle.std.proofs.Common.{◌≡◌, ◌≤◌, ◌<◌, ◌+◌, ◌-◌, ◌*◌, ◌/◌, ◌%◌, ◌^◌, ◌&&◌, ◌||◌, not, ℕ, Bool, true, false, cond, List, [], ◌∷◌, ◌++◌, length, take, drop, refl, sym, ap, subst, ◌∙◌, inl, inr, arith, ltb}
use Rattle.std.proofs.lemmas.Bool.{le-ltb, lt-ltb}
use Rattle.std.proofs.lemmas.List.{append-nil, length-append, length-drop}
use Rattle.std.proofs.lemmas.Nat.{div-add-mod'}
use Rattle.std.proofs.Math.Nat.{div-eq_of_lt, div-le_self, div-mul-le_self, mul-mod_left}
use Rattle.srv_edge.specs.Records.{joined}
use Rattle.msf_blocks.specs.Blocks.{IsBlockSize}
use Rattle.msf_blocks.specs.Edit.{StreamEdit}
use Rattle.msf_blocks.proofs.Sizes.{sized}
use Rattle.tpi_stream.specs.declared.header.Kept.{Kept}
use Rattle.tpi_stream.specs.Hashes.{hash_text, index_offsets}
use Rattle.tpi_stream.specs.Written.{record_stream_text}
use Rattle.tpi_stream.proofs.Growing.{length-hash_text, length-joined-append}
use Rattle.tpi_stream.proofs.WrittenStreams.{length-index_offsets, length-record_stream_text}
use Rattle.names_table.specs.Names.{IsNamesTable, Names, bytes_of}
use Rattle.names_table.specs.Text.{names_text}
use Rattle.names_table.proofs.Growing.{bytes_of-append}
use Rattle.names_table.proofs.Strings.{length-strings}
use Rattle.table_model.specs.Tables.{Tables}
use Rattle.type_store.specs.Commit.{Extent, RecordExtent, all_from, block_start, first_and_from, first_block, record_extent}
use Rattle.type_store.specs.Committed.{BuildsOn, RecordsChange}

-- ---- one edit

pub rest_is : (e : StreamEdit) (stream at len : ℕ) (bytes text : List ℕ) → e ≡ record { stream = stream; at = at; bytes = bytes; len = len } → bytes ≡ drop at text → len ≡ length text → e ≡ all_from stream text at
rest_is e stream at len bytes text is are n = is ∙ λ i. record { stream = stream; at = at; bytes = are i; len = n i }

pub first_is : (e : StreamEdit) (size stream len : ℕ) (bytes text : List ℕ) → e ≡ record { stream = stream; at = 0; bytes = bytes; len = len } → bytes ≡ take size text → len ≡ length text → e ≡ first_block size stream text
first_is e size stream len bytes text is are n = is ∙ λ i. record { stream = stream; at = 0; bytes = are i; len = n i }

-- ---- lengths

pub record_len : (kept : Kept) (old new : RecordExtent) (records : List (List ℕ)) → RecordsChange old new records → 56 + new.bytes ≡ length (record_stream_text kept records)
record_len kept old new records c = ap (λ (b : RecordExtent). 56 + b.bytes) c.is ∙ sym (length-record_stream_text kept records)

pub hash_len : (buckets : ℕ) (old new : RecordExtent) (records : List (List ℕ)) → RecordsChange old new records → 4 * new.count + length new.offsets ≡ length (hash_text records buckets)
hash_len buckets old new records c = ap (λ (b : RecordExtent). 4 * b.count + length b.offsets) c.is ∙ sym (length-hash_text buckets records)

pub hash_short : (old new : RecordExtent) (records : List (List ℕ)) → RecordsChange old new records → 4 * new.count + length new.offsets < 2 ^ 32
hash_short old new records c =
    let n = ap (λ (b : RecordExtent). 4 * b.count + length b.offsets) c.is in
    omega (arith, n, c.few, length-index_offsets records)

-- ---- what was there is no more than what is there

pub old_bytes : (old new : RecordExtent) (records : List (List ℕ)) → RecordsChange old new records → old.bytes ≤ length (joined records)
old_bytes old new records c =
    let was = ap (λ (b : RecordExtent). b.bytes) c.base.is in
    omega (arith, was, ap (λ r. length (joined r)) c.base.starts.1, length-joined-append c.base.before c.base.starts.0)

pub old_name_bytes : (old : Extent) (tables : Tables) → BuildsOn old tables → old.name_bytes ≤ bytes_of tables.names.names
old_name_bytes old tables b =
    let was = ap (λ (e : Extent). e.name_bytes) b.is in
    let names = b.on.extends.names in
    omega (arith, was, ap bytes_of names.1, bytes_of-append b.before.names.names names.0, length-strings names.0)
