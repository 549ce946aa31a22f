-- The damage of a new file in which a stream was changed.
use Rattle.std.proofs.Common.{◌≡◌, ◌||◌, ℕ, Bool, true, false, if◌then◌else◌, nat_lt, List, [], ◌∷◌, None, Some, Ok, Err, take, replicate, refl, sym, ap, ◌∙◌, arith}
use Rattle.byteorder.specs.Endian.{little_bytes}
use Rattle.msf_blocks.specs.Judging.{◌>>=◌, told_by}
use Rattle.srv_edge.specs.declared.failed.Limits.{Limits}
use Rattle.table_model.specs.Bounds.{bounds_of}
use Rattle.leaf_grammar.specs.declared.grammar.Space.TheVariants.{Types, Items}
use Rattle.msf_image.specs.declared.fault.DamageKind.TheVariants as kind
use Rattle.info_stream.specs.Named.{behind_guid, named_streams, stream_named}
use Rattle.info_stream.specs.Reading.{number}
use Rattle.info_stream.specs.Text.{new_info}
use Rattle.info_stream.proofs.Ages.{length-new_info, named-new_info}
use Rattle.tpi_stream.specs.declared.reading.Records.{Records}
use Rattle.tpi_stream.specs.Hashes.{index_offsets}
use Rattle.tpi_stream.specs.HeaderText.{header_in, header_text}
use Rattle.tpi_stream.specs.Reading as records
use Rattle.tpi_stream.specs.Written.{record_stream_text, written_header}
use Rattle.names_table.specs.declared.fault.NamesFault.{NamesFault}
use Rattle.names_table.specs.declared.fault.NamesFault.TheVariants as fault
use Rattle.names_table.specs.Buckets.{buckets_of}
use Rattle.names_table.specs.Reading as names
use Rattle.names_table.specs.Text.{names_text}
use Rattle.table_model.specs.Tables.{table_within}
use Rattle.type_store.specs.Faults.{absent_damage, damage_at, names_damage, record_damage}
use Rattle.type_store.specs.Holds.{Contents, content_at, holding, info_in, is_apart, names_held, records_held, there, with_hashes}
use Rattle.type_store.specs.NewFile.{changed, new_kept, replaced}
use Rattle.type_store.proofs.NewFile.{empty_kept, new_can, same_age}
use Rattle.type_store.proofs.Written.{info_written, records_written, table_written}

abbrev zeros : List ℕ
zeros = replicate 16 0

-- the parts that are as in a new file
info_plain : (contents : Contents) → content_at contents 1 ≡ Some (new_info zeros 0) → info_in contents ≡ Ok (7, 1)
info_plain contents is =
    info_written contents (new_info zeros 0) 1 7 (is ∙ ap Some (sym (same_age zeros 0))) (omega (arith, length-new_info zeros 0 refl)) (omega arith) (named-new_info zeros 0 refl)

abbrev plain : ℕ → Records
plain hash_stream = record { header = written_header (new_kept hash_stream) []; list = [] }

types_plain : (limits : Limits) (contents : Contents) → content_at contents 2 ≡ Some (record_stream_text (new_kept 5) []) → is_apart contents [] 5 ≡ true → records_held (bounds_of limits) contents Types [] ≡ Ok (plain 5)
types_plain limits contents is apart = records_written (bounds_of limits) contents Types [] (table_within limits []) (new_kept 5) (empty_kept limits) refl (new_can 5 (omega arith)) is apart

items_plain : (limits : Limits) (contents : Contents) → content_at contents 4 ≡ Some (record_stream_text (new_kept 6) []) → is_apart contents (5 ∷ []) 6 ≡ true
    → records_held (bounds_of limits) contents Items (5 ∷ []) ≡ Ok (plain 6)
items_plain limits contents is apart = records_written (bounds_of limits) contents Items (5 ∷ []) (table_within limits []) (new_kept 6) (empty_kept limits) refl (new_can 6 (omega arith)) is apart

-- ---- the PDB stream

info_cut : info_in (changed 1 (take 27)) ≡ Err (damage_at kind.InfoShort 12)
unfolding info_in stream_named named_streams behind_guid number new_info
info_cut = refl

pub info_damaged : (limits : Limits) → holding (bounds_of limits) (changed 1 (take 27)) ≡ Err (damage_at kind.InfoShort 12)
unfolding holding
info_damaged limits = rw info_cut refl

-- ---- types

few_buckets : (limits : Limits) → records_held (bounds_of limits) (changed 2 (replaced 28 (little_bytes 4 4095))) Types [] ≡ Err (damage_at kind.TypesHeader 28)
unfolding records_held records.reading records.header_of records.header_fault header_in header_text record_stream_text index_offsets
few_buckets limits = refl

pub types_damaged : (limits : Limits) → holding (bounds_of limits) (changed 2 (replaced 28 (little_bytes 4 4095))) ≡ Err (damage_at kind.TypesHeader 28)
unfolding holding
types_damaged limits = rw (info_plain (changed 2 (replaced 28 (little_bytes 4 4095))) refl, few_buckets limits) refl

-- ---- items

abbrev same_hashes : Contents
same_hashes = changed 4 (replaced 20 (little_bytes 2 5))

same_text : content_at same_hashes 4 ≡ Some (record_stream_text (new_kept 5) [])
unfolding record_stream_text header_text index_offsets
same_text = refl

not_apart : is_apart same_hashes (5 ∷ []) 5 ≡ false
unfolding is_apart
not_apart = refl

same_hash_stream : (limits : Limits) → records_held (bounds_of limits) same_hashes Items (5 ∷ []) ≡ Err (damage_at kind.ItemsHash 20)
unfolding records_held
same_hash_stream limits =
    let read = table_written (bounds_of limits) (table_within limits []) (new_kept 5) (empty_kept limits) refl (new_can 5 (omega arith)) in
    ap (λ c. there (absent_damage Items) c >>= λ s. told_by (record_damage Items) (records.reading limits.records limits.bytes s) >>= λ (found : Records). with_hashes (is_apart same_hashes (5 ∷ []) found.header.hash_stream) Items found) same_text
    ∙ ap (λ r. told_by (record_damage Items) r >>= λ (found : Records). with_hashes (is_apart same_hashes (5 ∷ []) found.header.hash_stream) Items found) read
    ∙ ap (λ b. with_hashes b Items (plain 5)) not_apart

types_apart : (contents : Contents) → content_at contents 5 ≡ Some [] → is_apart contents [] 5 ≡ true
unfolding is_apart
types_apart contents is = rw is refl

items_apart : (contents : Contents) → content_at contents 6 ≡ Some [] → is_apart contents (5 ∷ []) 6 ≡ true
unfolding is_apart
items_apart contents is = rw is refl

pub items_damaged : (limits : Limits) → holding (bounds_of limits) (changed 4 (replaced 20 (little_bytes 2 5))) ≡ Err (damage_at kind.ItemsHash 20)
unfolding holding
items_damaged limits = rw (info_plain same_hashes refl, types_plain limits same_hashes refl (types_apart same_hashes refl), same_hash_stream limits) refl

-- ---- names

-- the names' damage is the file's, where all else is as in a new file
names_only : (limits : Limits) (change : List ℕ → List ℕ) (fault : NamesFault) → names.reading limits.name_bytes (change (names_text 1 [])) ≡ Err fault → holding (bounds_of limits) (changed 7 change) ≡ Err (names_damage fault)
unfolding holding names_held is_apart
names_only limits change fault is =
    let c = changed 7 change in
    rw (info_plain c refl, types_plain limits c refl (types_apart c refl), items_plain limits c refl (items_apart c refl), is) refl

no_signature : (max_bytes : ℕ) → names.reading max_bytes (replaced 0 (little_bytes 1 0) (names_text 1 [])) ≡ Err (fault.Header 0)
unfolding names_text buckets_of
no_signature max_bytes = refl

past_end : (b : Bool) → (if b || true then Some (fault.Size 8) else None) ≡ Some (fault.Size 8)
past_end true = refl
past_end false = refl

too_many : (max_bytes : ℕ) → names.header_fault max_bytes (replaced 8 (little_bytes 4 18) (names_text 1 [])) ≡ Some (fault.Size 8)
unfolding names_text buckets_of
too_many max_bytes = past_end (nat_lt max_bytes 18)

size_past_end : (max_bytes : ℕ) → names.reading max_bytes (replaced 8 (little_bytes 4 18) (names_text 1 [])) ≡ Err (fault.Size 8)
size_past_end max_bytes = rw (too_many max_bytes) refl

pub names_damaged : (limits : Limits) → holding (bounds_of limits) (changed 7 (replaced 0 (little_bytes 1 0))) ≡ Err (damage_at kind.NamesHeader 0)
names_damaged limits = names_only limits (replaced 0 (little_bytes 1 0)) (fault.Header 0) (no_signature limits.name_bytes)

pub size_damaged : (limits : Limits) → holding (bounds_of limits) (changed 7 (replaced 8 (little_bytes 4 18))) ≡ Err (damage_at kind.NamesSize 8)
size_damaged limits = names_only limits (replaced 8 (little_bytes 4 18)) (fault.Size 8) (size_past_end limits.name_bytes)
