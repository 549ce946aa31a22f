-- The hash stream of records. docs/FORMAT.md, "The streams of types and items".
use Rattle.std.specs.Prelude.{ℕ, ◌+◌, ◌/◌, ◌%◌, ◌==◌, ◌||◌, nat_lt, if◌then◌else◌, Bool, List, [], ◌++◌, length, take}
use Rattle.std.specs.List.{flat_map, range_with_len}
use Rattle.byteorder.specs.Endian.{little_bytes}
use Rattle.srv_edge.specs.Records.{joined}
use Rattle.type_hash.specs.Record.{record_hash}
use Rattle.tpi_stream.specs.declared.hashes.TheConstants.{OFFSET_STEP}
use Rattle.tpi_stream.specs.declared.header.TheConstants.{FIRST_INDEX}

-- the bucket of each record
abbrev pub bucket_text : ℕ → List ℕ → List ℕ
bucket_text buckets r = little_bytes 4 (record_hash r % buckets)

-- where a record begins, counted from the first
abbrev pub start_at : List (List ℕ) → ℕ → ℕ
start_at records i = length (joined (take i records))

-- the first record has an index offset, and each in which a multiple of the step is passed
abbrev pub has_offset : ℕ → ℕ → ℕ → Bool
has_offset i start end = (i == 0) || nat_lt (start / OFFSET_STEP) (end / OFFSET_STEP)

-- an index offset: the record's index and where it begins
abbrev pub offset_between : ℕ → ℕ → ℕ → List ℕ
offset_between i start end = if has_offset i start end then little_bytes 4 (FIRST_INDEX + i) ++ little_bytes 4 start else []

abbrev pub offset_text : List (List ℕ) → ℕ → List ℕ
offset_text records i = offset_between i (start_at records i) (start_at records (i + 1))

unfoldable pub hash_values : ℕ → List (List ℕ) → List ℕ
hash_values buckets records = flat_map (bucket_text buckets) records

-- of so many records from a position on
abbrev pub offsets_between : List (List ℕ) → ℕ → ℕ → List ℕ
offsets_between records i count = flat_map (offset_text records) (range_with_len i count)

unfoldable pub index_offsets : List (List ℕ) → List ℕ
index_offsets records = offsets_between records 0 (length records)

-- the buckets of all records, and then the index offsets
abbrev pub hash_text : List (List ℕ) → ℕ → List ℕ
hash_text records buckets = hash_values buckets records ++ index_offsets records
