-- What is written of records: the whole stream, and which numbers it keeps. docs/FORMAT.md, "The streams of types and items".
use Rattle.std.specs.Prelude.{◌≤◌, ◌<◌, ℕ, ◌+◌, ◌*◌, ◌^◌, List, ◌++◌, length}
use Rattle.std.specs.List.{AllByRecursion}
use Rattle.srv_edge.specs.Records.{joined}
use Rattle.tpi_stream.specs.declared.header.Header.{Header}
use Rattle.tpi_stream.specs.declared.header.Kept.{Kept}
use Rattle.tpi_stream.specs.declared.header.TheConstants.{FIRST_INDEX, HEADER_BYTES, KEY_BYTES, LEAST_BUCKETS, MOST_BUCKETS, VERSION}
use Rattle.tpi_stream.specs.Hashes.{index_offsets}
use Rattle.tpi_stream.specs.HeaderText.{header_text}
use Rattle.tpi_stream.specs.Stream.{IsRecord}

-- the numbers of a header that are kept
abbrev pub kept_of : Header → Kept
kept_of h = record { hash_stream = h.hash_stream; aux_stream = h.aux_stream; buckets = h.buckets }

-- The header of so many records and bytes, where the index offsets have so many bytes: the hash stream has the hash of
-- each record, and then the index offsets.
abbrev pub header_with : Kept → ℕ → ℕ → ℕ → Header
header_with kept count bytes offsets = record {
  version = VERSION;
  header_size = HEADER_BYTES;
  begin = FIRST_INDEX;
  end = FIRST_INDEX + count;
  record_bytes = bytes;
  hash_stream = kept.hash_stream;
  aux_stream = kept.aux_stream;
  key_size = KEY_BYTES;
  buckets = kept.buckets;
  values_at = 0;
  values_len = KEY_BYTES * count;
  offsets_at = KEY_BYTES * count;
  offsets_len = offsets;
  adjusters_at = KEY_BYTES * count + offsets;
  adjusters_len = 0;
}

-- the header of these records
abbrev pub written_header : Kept → List (List ℕ) → Header
written_header kept records = header_with kept (length records) (length (joined records)) (length (index_offsets records))

-- a whole stream: the header and the records joined, and nothing behind
unfoldable pub record_stream_text : Kept → List (List ℕ) → List ℕ
record_stream_text kept records = header_text (written_header kept records) ++ joined records

-- numbers that a header can keep
pub record CanBeKept (kept : Kept) : Type 0 where
  pub hash_stream : kept.hash_stream < 2 ^ 16
  pub aux_stream : kept.aux_stream < 2 ^ 16
  pub least_buckets : LEAST_BUCKETS ≤ kept.buckets
  pub most_buckets : kept.buckets ≤ MOST_BUCKETS

-- records that a stream may hold within limits
pub record AreRecords (max_records max_bytes : ℕ) (records : List (List ℕ)) : Type 0 where
  pub all : AllByRecursion IsRecord records
  pub few : length records ≤ max_records
  pub short : length (joined records) ≤ max_bytes
