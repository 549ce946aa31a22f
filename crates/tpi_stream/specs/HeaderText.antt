-- The header of a stream of records. docs/FORMAT.md, "The streams of types and items".
use Rattle.std.specs.Prelude.{ℕ, List, ◌++◌, drop}
use Rattle.byteorder.specs.Endian.{little_bytes, little_number}
use Rattle.tpi_stream.specs.declared.header.Header.{Header}

-- the numbers at their places
unfoldable pub header_in : List ℕ → Header
header_in stream = record {
  version = little_number 4 (drop 0 stream);
  header_size = little_number 4 (drop 4 stream);
  begin = little_number 4 (drop 8 stream);
  end = little_number 4 (drop 12 stream);
  record_bytes = little_number 4 (drop 16 stream);
  hash_stream = little_number 2 (drop 20 stream);
  aux_stream = little_number 2 (drop 22 stream);
  key_size = little_number 4 (drop 24 stream);
  buckets = little_number 4 (drop 28 stream);
  values_at = little_number 4 (drop 32 stream);
  values_len = little_number 4 (drop 36 stream);
  offsets_at = little_number 4 (drop 40 stream);
  offsets_len = little_number 4 (drop 44 stream);
  adjusters_at = little_number 4 (drop 48 stream);
  adjusters_len = little_number 4 (drop 52 stream);
}

-- the seven numbers up to the number of the further hash stream, and the eight behind it
abbrev pub front_text : Header → List ℕ
front_text h =
    little_bytes 4 h.version ++ (little_bytes 4 h.header_size ++ (little_bytes 4 h.begin ++ (little_bytes 4 h.end ++ (little_bytes 4 h.record_bytes
    ++ (little_bytes 2 h.hash_stream ++ little_bytes 2 h.aux_stream)))))

abbrev pub back_text : Header → List ℕ
back_text h =
    little_bytes 4 h.key_size ++ (little_bytes 4 h.buckets ++ (little_bytes 4 h.values_at ++ (little_bytes 4 h.values_len
    ++ (little_bytes 4 h.offsets_at ++ (little_bytes 4 h.offsets_len ++ (little_bytes 4 h.adjusters_at ++ little_bytes 4 h.adjusters_len))))))

-- the 56 bytes of a header
unfoldable pub header_text : Header → List ℕ
header_text h = front_text h ++ back_text h
