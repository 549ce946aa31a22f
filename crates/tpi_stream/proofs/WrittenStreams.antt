-- A stream that is written of records is read again as the same.
use Rattle.std.proofs.Common.{◌≡◌, ◌≤◌, ◌<◌, ◌+◌, ◌*◌, ◌^◌, ℕ, zero, suc, Bool, true, false, cond, All, List, [], ◌∷◌, ◌++◌, Ok, length, refl, sym, ap, ◌∙◌, arith}
use Rattle.std.specs.List.{flat_map, range_with_len}
use Rattle.std.proofs.lemmas.List.{append-nil, length-append}
use Rattle.srv_edge.specs.Records.{joined}
use Rattle.tpi_stream.specs.declared.header.Kept.{Kept}
use Rattle.tpi_stream.specs.declared.reading.Records.{Records}
use Rattle.tpi_stream.specs.Hashes.{has_offset, index_offsets, offset_text, start_at}
use Rattle.tpi_stream.specs.HeaderText.{header_text}
use Rattle.tpi_stream.specs.Reading.{reading}
use Rattle.tpi_stream.specs.Stream.{IsHeader, IsStream}
use Rattle.tpi_stream.specs.Written.{AreRecords, CanBeKept, kept_of, record_stream_text, written_header}
use Rattle.tpi_stream.proofs.HeaderTexts.{length-header_text}
use Rattle.tpi_stream.proofs.Streams.{AreBytes-all, spelled, stream_read}

-- an index offset has no more than eight bytes
at_most_eight : (b : Bool) (xs : List ℕ) → length xs ≡ 8 → length (cond b xs []) ≤ 8
at_most_eight true xs is = omega (arith, is)
at_most_eight false xs is = omega arith

length-flat_map_le : (f : ℕ → List ℕ) (xs : List ℕ) → ((x : ℕ) → length (f x) ≤ 8) → length (flat_map f xs) ≤ 8 * length xs
length-flat_map_le f [] le = omega arith
length-flat_map_le f (x ∷ xs) le = omega (arith, length-append (f x) (flat_map f xs), length-flat_map_le f xs le, le x)

length-range : (a n : ℕ) → length (range_with_len a n) ≡ n
length-range a zero = refl
length-range a (suc n) = ap suc (length-range (a + 1) n)

pub length-index_offsets : (records : List (List ℕ)) → length (index_offsets records) ≤ 8 * length records
unfolding index_offsets
length-index_offsets records =
    let n = length records in
    let each = length-flat_map_le (offset_text records) (range_with_len 0 n) (λ i. at_most_eight (has_offset i (start_at records i) (start_at records (i + 1))) _ refl) in
    omega (arith, each, length-range 0 n)

-- each number of a written header fits
header_fits : (kept : Kept) (records : List (List ℕ)) → CanBeKept kept → length records ≤ 2 ^ 23 → length (joined records) ≤ 2 ^ 30 → IsHeader (written_header kept records)
header_fits kept records can few short =
    let offsets = length-index_offsets records in
    record {
      version = refl;
      header_size = refl;
      begin = refl;
      end = omega (arith, few);
      record_bytes = omega (arith, short);
      hash_stream = can.hash_stream;
      aux_stream = can.aux_stream;
      key_size = refl;
      least_buckets = can.least_buckets;
      most_buckets = can.most_buckets;
      values_at = omega arith;
      values_len = omega (arith, few);
      offsets_at = omega (arith, few);
      offsets_len = omega (arith, few, offsets);
      adjusters_at = omega (arith, few, offsets);
      adjusters_len = omega arith;
    }

pub written_read : (max_records max_bytes : ℕ) (kept : Kept) (records : List (List ℕ)) → max_records ≤ 2 ^ 23 → max_bytes ≤ 2 ^ 30 → CanBeKept kept → AreRecords max_records max_bytes records
    → reading max_records max_bytes (record_stream_text kept records) ≡ Ok (record { header = written_header kept records; list = records })
unfolding record_stream_text
written_read max_records max_bytes kept records most_records most_bytes can are =
    let made : Records = record { header = written_header kept records; list = records } in
    let is : IsStream max_records max_bytes (record_stream_text kept records) made = record {
      header = header_fits kept records can (omega (arith, are.few, most_records)) (omega (arith, are.short, most_bytes));
      records = are.all;
      count = refl;
      bytes = refl;
      few_records = are.few;
      few_bytes = are.short;
      behind = [];
      text = ap (λ xs. header_text (written_header kept records) ++ xs) (sym (append-nil (joined records)));
    } in
    stream_read max_records max_bytes (record_stream_text kept records) made is

-- what is read can be kept, and written again
pub read_can : (max_records max_bytes : ℕ) (stream : List ℕ) (r : Records) → All (λ byte. byte < 2 ^ 8) stream → reading max_records max_bytes stream ≡ Ok r
    → CanBeKept (kept_of r.header) × AreRecords max_records max_bytes r.list
read_can max_records max_bytes stream r all is =
    let s = spelled max_records max_bytes stream r (AreBytes-all stream all) is in
    let h = s.header in (
      record { hash_stream = h.hash_stream; aux_stream = h.aux_stream; least_buckets = h.least_buckets; most_buckets = h.most_buckets },
      record { all = s.records; few = s.few_records; short = s.few_bytes },
    )

pub length-record_stream_text : (kept : Kept) (records : List (List ℕ)) → length (record_stream_text kept records) ≡ 56 + length (joined records)
unfolding record_stream_text
length-record_stream_text kept records =
    let h = written_header kept records in
    length-append (header_text h) (joined records) ∙ ap (λ (n : ℕ). n + length (joined records)) (length-header_text h)
