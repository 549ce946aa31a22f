-- A stream of records read from left to right, or the first test that it fails. docs/FORMAT.md, "The streams of types and items".
use Rattle.std.specs.Prelude.{ℕ, zero, suc, ◌+◌, ◌-◌, ◌==◌, ◌&&◌, nat_le, if◌then◌else◌, Bool, List, [], ◌∷◌, length, take, drop, Option, Some, None, Result, Ok, Err}
use Rattle.byteorder.specs.Endian.{little_number}
use Rattle.msf_blocks.specs.Judging.{◌>>=◌, first_damage, unless}
use Rattle.tpi_stream.specs.declared.fault.TpiFault.{TpiFault}
use Rattle.tpi_stream.specs.declared.fault.TpiFault.TheVariants.{Header, Version, Begin, Bytes, Record, Count, OutOfMemory}
use Rattle.tpi_stream.specs.declared.header.Header as header
use Rattle.tpi_stream.specs.declared.header.TheConstants.{FIRST_INDEX, HEADER_BYTES, KEY_BYTES, LEAST_BUCKETS, MOST_BUCKETS, VERSION}
use Rattle.tpi_stream.specs.declared.reading.Records.{Records}
use Rattle.tpi_stream.specs.HeaderText.{header_in}

-- The tests of a header in their order, each with the fault of one that does not pass it, of a stream of so many bytes.
abbrev pub header_tests : header.Header → ℕ → ℕ → ℕ → List (Bool × TpiFault)
header_tests h size max_records max_bytes =
    (h.version == VERSION, Version 0) ∷ (h.header_size == HEADER_BYTES, Header 4) ∷ (h.key_size == KEY_BYTES, Header 24)
    ∷ (nat_le LEAST_BUCKETS h.buckets && nat_le h.buckets MOST_BUCKETS, Header 28) ∷ (h.begin == FIRST_INDEX, Begin 8)
    ∷ (nat_le h.begin h.end && nat_le (h.end - h.begin) max_records, Count 12)
    ∷ (nat_le h.record_bytes max_bytes && nat_le (HEADER_BYTES + h.record_bytes) size, Bytes 16) ∷ []

unfoldable pub header_fault : header.Header → ℕ → ℕ → ℕ → Option TpiFault
header_fault h size max_records max_bytes = first_damage (header_tests h size max_records max_bytes)

-- the header, by its tests
unfoldable pub header_of : ℕ → ℕ → List ℕ → Result header.Header TpiFault
header_of max_records max_bytes stream =
    if nat_le HEADER_BYTES (length stream) then unless (header_fault (header_in stream) (length stream) max_records max_bytes) (header_in stream)
    else Err (Header (length stream))

-- how many bytes the record at the front has, by its first two
abbrev pub size_of : List ℕ → ℕ
size_of bytes = little_number 2 bytes + 2

-- a whole record stands at the front
abbrev pub has_record : List ℕ → Bool
has_record bytes = nat_le 2 (length bytes) && (nat_le 4 (size_of bytes) && nat_le (size_of bytes) (length bytes))

abbrev pub with_record : List ℕ → Result (List (List ℕ)) TpiFault → Result (List (List ℕ)) TpiFault
with_record first later = later >>= λ records. Ok (first ∷ records)

-- The records of bytes that begin at a place of the stream, or the place of the first that is none. There are at most so
-- many: no more than bytes.
unfoldable pub records_in : ℕ → ℕ → List ℕ → Result (List (List ℕ)) TpiFault
records_in most at [] = Ok []
records_in zero at (b ∷ bytes) = Err (Record at)
records_in (suc most) at (b ∷ bytes) =
    if has_record (b ∷ bytes) then with_record (take (size_of (b ∷ bytes)) (b ∷ bytes)) (records_in most (at + size_of (b ∷ bytes)) (drop (size_of (b ∷ bytes)) (b ∷ bytes)))
    else Err (Record at)

-- the bytes of the records
abbrev pub record_bytes_of : header.Header → List ℕ → List ℕ
record_bytes_of h stream = take h.record_bytes (drop HEADER_BYTES stream)

-- the records, where there are as many as the header says
abbrev pub counted : header.Header → List (List ℕ) → Result Records TpiFault
counted h records = if length records == h.end - h.begin then Ok (record { header = h; list = records }) else Err (Count 12)

-- what a stream holds within limits
unfoldable pub reading : ℕ → ℕ → List ℕ → Result Records TpiFault
reading max_records max_bytes stream = do
  h ← header_of max_records max_bytes stream
  records ← records_in (length (record_bytes_of h stream)) HEADER_BYTES (record_bytes_of h stream)
  counted h records

-- a fault that is no want of memory
abbrev pub damage_in : TpiFault → Option TpiFault
damage_in OutOfMemory = None
damage_in fault = Some fault
