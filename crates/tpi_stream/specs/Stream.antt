-- What stands in a stream of records. docs/FORMAT.md, "The streams of types and items".
use Rattle.std.specs.Prelude.{◌≡◌, ◌≤◌, ◌<◌, ℕ, ◌+◌, ◌^◌, List, ◌++◌, length}
use Rattle.std.specs.List.{AllByRecursion}
use Rattle.srv_edge.specs.Records.{joined}
use Rattle.tpi_stream.specs.declared.header.Header.{Header}
use Rattle.tpi_stream.specs.declared.header.TheConstants.{FIRST_INDEX, HEADER_BYTES, KEY_BYTES, LEAST_BUCKETS, MOST_BUCKETS, VERSION}
use Rattle.tpi_stream.specs.declared.reading.Records.{Records}
use Rattle.tpi_stream.specs.HeaderText.{header_text}
use Rattle.tpi_stream.specs.Reading.{size_of}

-- a record of at least 4 bytes, of which the first two say how many come behind them
pub record IsRecord (bytes : List ℕ) : Type 0 where
  pub least : 4 ≤ length bytes
  pub size : size_of bytes ≡ length bytes

-- each number of a header fits its bytes
pub record IsHeader (h : Header) : Type 0 where
  pub version : h.version ≡ VERSION
  pub header_size : h.header_size ≡ HEADER_BYTES
  pub begin : h.begin ≡ FIRST_INDEX
  pub end : h.end < 2 ^ 32
  pub record_bytes : h.record_bytes < 2 ^ 32
  pub hash_stream : h.hash_stream < 2 ^ 16
  pub aux_stream : h.aux_stream < 2 ^ 16
  pub key_size : h.key_size ≡ KEY_BYTES
  pub least_buckets : LEAST_BUCKETS ≤ h.buckets
  pub most_buckets : h.buckets ≤ MOST_BUCKETS
  pub values_at : h.values_at < 2 ^ 32
  pub values_len : h.values_len < 2 ^ 32
  pub offsets_at : h.offsets_at < 2 ^ 32
  pub offsets_len : h.offsets_len < 2 ^ 32
  pub adjusters_at : h.adjusters_at < 2 ^ 32
  pub adjusters_len : h.adjusters_len < 2 ^ 32

-- A stream within limits is the text of a header, the records joined that it counts, and any bytes.
pub record IsStream (max_records max_bytes : ℕ) (stream : List ℕ) (r : Records) : Type 0 where
  pub header : IsHeader r.header
  pub records : AllByRecursion IsRecord r.list
  pub count : r.header.end ≡ FIRST_INDEX + length r.list
  pub bytes : r.header.record_bytes ≡ length (joined r.list)
  pub few_records : length r.list ≤ max_records
  pub few_bytes : length (joined r.list) ≤ max_bytes
  pub behind : List ℕ
  pub text : stream ≡ header_text r.header ++ (joined r.list ++ behind)
