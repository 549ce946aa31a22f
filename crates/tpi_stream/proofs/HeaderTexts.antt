-- The text of a header: what is read was spelled so, and what is spelled is read again.
use Rattle.std.proofs.Common.{◌≡◌, ◌≤◌, ◌+◌, ℕ, List, ◌++◌, length, drop, refl, sym, ap, ◌∙◌, arith, lit≤}
use Rattle.std.proofs.lemmas.List.{drop-drop, length-drop}
use Rattle.byteorder.specs.Endian.{little_bytes, little_number}
use Rattle.byteorder.specs.Numbers.{little_number-reads_back}
use Rattle.msf_blocks.proofs.Numbers.{AreBytes, AreBytes-drop}
use Rattle.srv_edge.specs.Frames.{half_bytes, word_bytes}
use Rattle.srv_edge.proofs.Numbers.{half_bytes-read, word_bytes-read}
use Rattle.tpi_stream.specs.declared.header.Header.{Header}
use Rattle.tpi_stream.specs.HeaderText.{header_in, header_text}
use Rattle.tpi_stream.specs.Stream.{IsHeader}

pub length-header_text : (h : Header) → length (header_text h) ≡ 56
unfolding header_text
length-header_text h = refl

pub drop-header_text : (h : Header) (rest : List ℕ) → drop 56 (header_text h ++ rest) ≡ rest
unfolding header_text
drop-header_text h rest = refl

-- the numbers of the text
pub header_read : (h : Header) (rest : List ℕ) → IsHeader h → header_in (header_text h ++ rest) ≡ h
unfolding header_in header_text
header_read h rest is =
    let t = header_text h ++ rest in
    λ i. record {
      version = little_number-reads_back 4 h.version (drop 4 t) (omega (arith, is.version)) i;
      header_size = little_number-reads_back 4 h.header_size (drop 8 t) (omega (arith, is.header_size)) i;
      begin = little_number-reads_back 4 h.begin (drop 12 t) (omega (arith, is.begin)) i;
      end = little_number-reads_back 4 h.end (drop 16 t) is.end i;
      record_bytes = little_number-reads_back 4 h.record_bytes (drop 20 t) is.record_bytes i;
      hash_stream = little_number-reads_back 2 h.hash_stream (drop 22 t) is.hash_stream i;
      aux_stream = little_number-reads_back 2 h.aux_stream (drop 24 t) is.aux_stream i;
      key_size = little_number-reads_back 4 h.key_size (drop 28 t) (omega (arith, is.key_size)) i;
      buckets = little_number-reads_back 4 h.buckets (drop 32 t) (omega (arith, is.most_buckets)) i;
      values_at = little_number-reads_back 4 h.values_at (drop 36 t) is.values_at i;
      values_len = little_number-reads_back 4 h.values_len (drop 40 t) is.values_len i;
      offsets_at = little_number-reads_back 4 h.offsets_at (drop 44 t) is.offsets_at i;
      offsets_len = little_number-reads_back 4 h.offsets_len (drop 48 t) is.offsets_len i;
      adjusters_at = little_number-reads_back 4 h.adjusters_at (drop 52 t) is.adjusters_at i;
      adjusters_len = little_number-reads_back 4 h.adjusters_len (drop 56 t) is.adjusters_len i;
    }

-- a number of the header, and what is behind it
four_more : (stream : List ℕ) → AreBytes stream → 56 ≤ length stream → (k : ℕ) (rest : List ℕ) → k + 4 ≤ 56 → drop (k + 4) stream ≡ rest
    → drop k stream ≡ little_bytes 4 (little_number 4 (drop k stream)) ++ rest
unfolding word_bytes
four_more stream fits long k rest le is =
    sym (word_bytes-read (drop k stream) (omega (arith, long, le, length-drop k stream)) (AreBytes-drop k stream fits))
    ∙ ap (λ xs. little_bytes 4 (little_number 4 (drop k stream)) ++ xs) (drop-drop 4 k stream ∙ is)

two_more : (stream : List ℕ) → AreBytes stream → 56 ≤ length stream → (k : ℕ) (rest : List ℕ) → k + 2 ≤ 56 → drop (k + 2) stream ≡ rest
    → drop k stream ≡ little_bytes 2 (little_number 2 (drop k stream)) ++ rest
unfolding half_bytes
two_more stream fits long k rest le is =
    sym (half_bytes-read (drop k stream) (omega (arith, long, le, length-drop k stream)) (AreBytes-drop k stream fits))
    ∙ ap (λ xs. little_bytes 2 (little_number 2 (drop k stream)) ++ xs) (drop-drop 2 k stream ∙ is)

-- the text of the numbers
pub header_spelled : (stream : List ℕ) → AreBytes stream → 56 ≤ length stream → stream ≡ header_text (header_in stream) ++ drop 56 stream
unfolding header_in header_text
header_spelled stream fits long =
    let four = four_more stream fits long in
    let two = two_more stream fits long in
    let t52 = four 52 (drop 56 stream) (lit≤ tt) refl in
    let t48 = four 48 _ (lit≤ tt) t52 in
    let t44 = four 44 _ (lit≤ tt) t48 in
    let t40 = four 40 _ (lit≤ tt) t44 in
    let t36 = four 36 _ (lit≤ tt) t40 in
    let t32 = four 32 _ (lit≤ tt) t36 in
    let t28 = four 28 _ (lit≤ tt) t32 in
    let t24 = four 24 _ (lit≤ tt) t28 in
    let t22 = two 22 _ (lit≤ tt) t24 in
    let t20 = two 20 _ (lit≤ tt) t22 in
    let t16 = four 16 _ (lit≤ tt) t20 in
    let t12 = four 12 _ (lit≤ tt) t16 in
    let t8 = four 8 _ (lit≤ tt) t12 in
    let t4 = four 4 _ (lit≤ tt) t8 in
    four 0 _ (lit≤ tt) t4
