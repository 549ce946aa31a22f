-- What is read stands in the stream, and what stands there is read.
use Rattle.std.proofs.Common.{◌≡◌, ◌≤◌, ◌<◌, ◌+◌, ◌-◌, ◌^◌, ◌&&◌, ℕ, Bool, true, false, cond, All, List, [], ◌∷◌, ◌++◌, Option, None, Result, Ok, Err, IfOk, length, take, drop, refl, sym, ap, subst, ◌∙◌, arith, le-leb, leb-true, eqb-true, eq-eqb, eqb, leb, lit<, inl, inr}
use Rattle.std.proofs.lemmas.Bool.{and_from, and_parts, cases_lt}
use Rattle.std.proofs.lemmas.List.{get_or_past, length-append, length-drop, length-take-le, take_at, take-append-drop}
use Rattle.byteorder.specs.Numbers.{little_from-lt}
use Rattle.msf_blocks.specs.Judging.{◌>>=◌, Tells, first_damage, unless}
use Rattle.msf_blocks.proofs.Judging.{bound_ok, is_passed, unless_ok, was_passed}
use Rattle.msf_blocks.proofs.Numbers.{AreBytes, AreBytes-drop}
use Rattle.srv_edge.specs.Records.{joined}
use Rattle.tpi_stream.specs.declared.fault.TpiFault.{TpiFault}
use Rattle.tpi_stream.specs.declared.fault.TpiFault.TheVariants as fault
use Rattle.tpi_stream.specs.declared.header.Header.{Header}
use Rattle.tpi_stream.specs.declared.reading.Records.{Records}
use Rattle.tpi_stream.specs.HeaderText.{header_in, header_text}
use Rattle.tpi_stream.specs.Reading.{counted, damage_in, header_fault, header_of, reading, record_bytes_of, records_in}
use Rattle.tpi_stream.specs.Stream.{IsHeader, IsStream}
use Rattle.tpi_stream.proofs.HeaderTexts.{drop-header_text, header_read, header_spelled, length-header_text}
use Rattle.tpi_stream.proofs.Joining.{AreIn, joined_read, read_joined}

-- the records behind a header, where they are as many as it counts
abbrev behind_header : List ℕ → Header → Result Records TpiFault
behind_header stream h = records_in (length (record_bytes_of h stream)) 56 (record_bytes_of h stream) >>= counted h

-- the tests from one on
abbrev Tests : Type 0
Tests = List (Bool × TpiFault)

abbrev from_bytes : Header → ℕ → ℕ → Tests
from_bytes h size max_bytes = (leb h.record_bytes max_bytes && leb (56 + h.record_bytes) size, fault.Bytes 16) ∷ []

abbrev from_count : Header → ℕ → ℕ → ℕ → Tests
from_count h size max_records max_bytes = (leb h.begin h.end && leb (h.end - h.begin) max_records, fault.Count 12) ∷ from_bytes h size max_bytes

abbrev from_begin : Header → ℕ → ℕ → ℕ → Tests
from_begin h size max_records max_bytes = (eqb h.begin 4096, fault.Begin 8) ∷ from_count h size max_records max_bytes

abbrev from_buckets : Header → ℕ → ℕ → ℕ → Tests
from_buckets h size max_records max_bytes = (leb 4096 h.buckets && leb h.buckets 262144, fault.Header 28) ∷ from_begin h size max_records max_bytes

abbrev from_key_size : Header → ℕ → ℕ → ℕ → Tests
from_key_size h size max_records max_bytes = (eqb h.key_size 4, fault.Header 24) ∷ from_buckets h size max_records max_bytes

abbrev from_header_size : Header → ℕ → ℕ → ℕ → Tests
from_header_size h size max_records max_bytes = (eqb h.header_size 56, fault.Header 4) ∷ from_key_size h size max_records max_bytes

passes : (h : Header) (size max_records max_bytes : ℕ) → IsHeader h → 4096 ≤ h.end → h.end - 4096 ≤ max_records → h.record_bytes ≤ max_bytes → 56 + h.record_bytes ≤ size
    → header_fault h size max_records max_bytes ≡ None
unfolding header_fault
passes h size max_records max_bytes is order few short inside =
    let buckets = and_from (leb 4096 h.buckets) (leb h.buckets 262144) (le-leb 4096 h.buckets is.least_buckets) (le-leb h.buckets 262144 is.most_buckets) in
    let count = and_from (leb h.begin h.end) (leb (h.end - h.begin) max_records) (le-leb h.begin h.end (omega (arith, order, is.begin))) (le-leb (h.end - h.begin) max_records (omega (arith, few, is.begin))) in
    let bytes = and_from (leb h.record_bytes max_bytes) (leb (56 + h.record_bytes) size) (le-leb h.record_bytes max_bytes short) (le-leb (56 + h.record_bytes) size inside) in
    let p7 : first_damage (from_bytes h size max_bytes) ≡ None = is_passed (leb h.record_bytes max_bytes && leb (56 + h.record_bytes) size) (fault.Bytes 16) [] bytes refl in
    let p6 = is_passed (leb h.begin h.end && leb (h.end - h.begin) max_records) (fault.Count 12) (from_bytes h size max_bytes) count p7 in
    let p5 = is_passed (eqb h.begin 4096) (fault.Begin 8) (from_count h size max_records max_bytes) (eq-eqb h.begin 4096 is.begin) p6 in
    let p4 = is_passed (leb 4096 h.buckets && leb h.buckets 262144) (fault.Header 28) (from_begin h size max_records max_bytes) buckets p5 in
    let p3 = is_passed (eqb h.key_size 4) (fault.Header 24) (from_buckets h size max_records max_bytes) (eq-eqb h.key_size 4 is.key_size) p4 in
    let p2 = is_passed (eqb h.header_size 56) (fault.Header 4) (from_key_size h size max_records max_bytes) (eq-eqb h.header_size 56 is.header_size) p3 in
    is_passed (eqb h.version 20040203) (fault.Version 0) (from_header_size h size max_records max_bytes) (eq-eqb h.version 20040203 is.version) p2

pub stream_read : (max_records max_bytes : ℕ) (stream : List ℕ) (r : Records) → IsStream max_records max_bytes stream r → reading max_records max_bytes stream ≡ Ok r
unfolding reading header_of
stream_read max_records max_bytes stream r is =
    let h = r.header in
    let rest = joined r.list ++ is.behind in
    let t = header_text h ++ rest in
    let len = length-append (header_text h) rest in
    let head = length-header_text h in
    let tail = length-append (joined r.list) is.behind in
    let long : 56 ≤ length t = omega (arith, len, head) in
    let header_is = header_read h rest is.header in
    let none = passes h (length t) max_records max_bytes is.header (omega (arith, is.count)) (omega (arith, is.count, is.few_records)) (omega (arith, is.bytes, is.few_bytes)) (omega (arith, len, head, tail, is.bytes)) in
    let bytes : record_bytes_of h t ≡ joined r.list =
    ap (take h.record_bytes) (drop-header_text h rest) ∙ ap (λ n. take n rest) is.bytes ∙ take_at (joined r.list) is.behind (length (joined r.list)) refl in
    let header : header_of max_records max_bytes t ≡ Ok h =
    ap (λ b. cond b (unless (header_fault (header_in t) (length t) max_records max_bytes) (header_in t)) (Err (fault.Header (length t)))) (le-leb 56 (length t) long)
    ∙ ap (λ x. unless (header_fault x (length t) max_records max_bytes) x) header_is ∙ ap (λ found. unless found h) none in
    ap (reading max_records max_bytes) is.text ∙ ap (λ x. x >>= behind_header t) header
    ∙ ap (λ xs. records_in (length xs) 56 xs >>= counted h) bytes
    ∙ ap (λ x. x >>= counted h) (joined_read r.list 56 is.records)
    ∙ ap (λ b. cond b (Ok r) (Err (fault.Count 12))) (eq-eqb _ _ (omega (arith, is.count, is.header.begin)))

-- ---- what was read

header_parts : (b : Bool) (found : Option TpiFault) (x h : Header) (e : TpiFault) → cond b (unless found x) (Err e) ≡ Ok h → (b ≡ true) × (found ≡ None) × (x ≡ h)
header_parts true found x h e is = let parts = unless_ok found x h is in (refl, parts.0, parts.1)
header_parts false found x h e is = absurd cc

counted_parts : (b : Bool) (x r : Records) (e : TpiFault) → cond b (Ok x) (Err e) ≡ Ok r → (b ≡ true) × (x ≡ r)
counted_parts true x r e is = (refl, cc)
counted_parts false x r e is = absurd cc

-- what the tests of a header leave
pub record Passes (h : Header) (size max_records max_bytes : ℕ) : Type 0 where
  pub version : h.version ≡ 20040203
  pub header_size : h.header_size ≡ 56
  pub key_size : h.key_size ≡ 4
  pub least_buckets : 4096 ≤ h.buckets
  pub most_buckets : h.buckets ≤ 262144
  pub begin : h.begin ≡ 4096
  pub order : h.begin ≤ h.end
  pub few : h.end - h.begin ≤ max_records
  pub short : h.record_bytes ≤ max_bytes
  pub inside : 56 + h.record_bytes ≤ size

passed : (h : Header) (size max_records max_bytes : ℕ) → header_fault h size max_records max_bytes ≡ None → Passes h size max_records max_bytes
unfolding header_fault
passed h size max_records max_bytes none =
    let a = was_passed (eqb h.version 20040203) (fault.Version 0) (from_header_size h size max_records max_bytes) none in
    let b = was_passed (eqb h.header_size 56) (fault.Header 4) (from_key_size h size max_records max_bytes) a.1 in
    let c = was_passed (eqb h.key_size 4) (fault.Header 24) (from_buckets h size max_records max_bytes) b.1 in
    let d = was_passed (leb 4096 h.buckets && leb h.buckets 262144) (fault.Header 28) (from_begin h size max_records max_bytes) c.1 in
    let e = was_passed (eqb h.begin 4096) (fault.Begin 8) (from_count h size max_records max_bytes) d.1 in
    let f = was_passed (leb h.begin h.end && leb (h.end - h.begin) max_records) (fault.Count 12) (from_bytes h size max_bytes) e.1 in
    let g = was_passed (leb h.record_bytes max_bytes && leb (56 + h.record_bytes) size) (fault.Bytes 16) [] f.1 in
    let buckets = and_parts (leb 4096 h.buckets) (leb h.buckets 262144) d.0 in
    let count = and_parts (leb h.begin h.end) (leb (h.end - h.begin) max_records) f.0 in
    let bytes = and_parts (leb h.record_bytes max_bytes) (leb (56 + h.record_bytes) size) g.0 in
    record {
      version = eqb-true _ _ a.0;
      header_size = eqb-true _ _ b.0;
      key_size = eqb-true _ _ c.0;
      least_buckets = leb-true _ _ buckets.0;
      most_buckets = leb-true _ _ buckets.1;
      begin = eqb-true _ _ e.0;
      order = leb-true _ _ count.0;
      few = leb-true _ _ count.1;
      short = leb-true _ _ bytes.0;
      inside = leb-true _ _ bytes.1;
    }

header_is : (stream : List ℕ) (size max_records max_bytes : ℕ) → AreBytes stream → Passes (header_in stream) size max_records max_bytes → IsHeader (header_in stream)
unfolding header_in
header_is stream size max_records max_bytes fits p =
    let four = λ (k : ℕ). little_from-lt 0 4 (drop k stream) (AreBytes-drop k stream fits) in
    let two = λ (k : ℕ). little_from-lt 0 2 (drop k stream) (AreBytes-drop k stream fits) in
    record {
      version = p.version;
      header_size = p.header_size;
      begin = p.begin;
      end = four 12;
      record_bytes = four 16;
      hash_stream = two 20;
      aux_stream = two 22;
      key_size = p.key_size;
      least_buckets = p.least_buckets;
      most_buckets = p.most_buckets;
      values_at = four 32;
      values_len = four 36;
      offsets_at = four 40;
      offsets_len = four 44;
      adjusters_at = four 48;
      adjusters_len = four 52;
    }

pub AreBytes-all : (bytes : List ℕ) → All (λ byte. byte < 2 ^ 8) bytes → AreBytes bytes
AreBytes-all bytes all i =
    elim (cases_lt i (length bytes)) [
      | inl lt ↦ all i 0 lt
      | inr le ↦ subst (λ n. n < 256) (sym (get_or_past bytes i 0 le)) (lit< tt)
    ]

-- what is known of a stream that was read
pub record IsRead (max_records max_bytes : ℕ) (stream : List ℕ) (r : Records) : Type 0 where
  pub long : 56 ≤ length stream
  pub header : header_in stream ≡ r.header
  pub passes : Passes r.header (length stream) max_records max_bytes
  pub count : length r.list ≡ r.header.end - r.header.begin
  pub found : AreIn (record_bytes_of r.header stream) r.list
  pub bytes : length (joined r.list) ≡ r.header.record_bytes

pub was_read : (max_records max_bytes : ℕ) (stream : List ℕ) (r : Records) → reading max_records max_bytes stream ≡ Ok r → IsRead max_records max_bytes stream r
unfolding reading header_of
was_read max_records max_bytes stream r is =
    let h = header_in stream in
    let one = bound_ok (header_of max_records max_bytes stream) (behind_header stream) r is in
    let head = header_parts _ _ h one.0 _ one.1 in
    let p = passed h (length stream) max_records max_bytes head.1 in
    let later : behind_header stream h ≡ Ok r = ap (behind_header stream) head.2 ∙ one.2 in
    let two = bound_ok (records_in (length (record_bytes_of h stream)) 56 (record_bytes_of h stream)) (counted h) r later in
    let list = two.0 in
    let last = counted_parts _ _ r _ two.2 in
    let found = read_joined 56 (record_bytes_of h stream) list two.1 in
    let len : length (record_bytes_of h stream) ≡ h.record_bytes = length-take-le h.record_bytes (drop 56 stream) (omega (arith, p.inside, length-drop 56 stream)) in
    let made : IsRead max_records max_bytes stream (record { header = h; list = list }) =
    record { long = leb-true _ _ head.0; header = refl; passes = p; count = eqb-true _ _ last.0; found = found; bytes = ap length found.all ∙ len } in
    subst (IsRead max_records max_bytes stream) last.1 made

-- its bytes behind the header are those of the records
pub stands_behind : (max_records max_bytes : ℕ) (stream : List ℕ) (r : Records) → reading max_records max_bytes stream ≡ Ok r
    → (56 + length (joined r.list) ≤ length stream) × (joined r.list ≡ take (length (joined r.list)) (drop 56 stream))
stands_behind max_records max_bytes stream r is =
    let w = was_read max_records max_bytes stream r is in
    (omega (arith, w.bytes, w.passes.inside), w.found.all ∙ ap (λ n. take n (drop 56 stream)) (sym w.bytes))

pub spelled : (max_records max_bytes : ℕ) (stream : List ℕ) (r : Records) → AreBytes stream → reading max_records max_bytes stream ≡ Ok r → IsStream max_records max_bytes stream r
spelled max_records max_bytes stream r fits is =
    let w = was_read max_records max_bytes stream r is in
    let h = r.header in
    let read : header_in stream ≡ h = w.header in
    let p = w.passes in
    record {
      header = subst IsHeader read (header_is stream (length stream) max_records max_bytes fits (subst (λ x. Passes x (length stream) max_records max_bytes) (sym read) p));
      records = w.found.each;
      count = omega (arith, w.count, p.begin, p.order);
      bytes = sym w.bytes;
      few_records = omega (arith, w.count, p.few);
      few_bytes = omega (arith, w.bytes, p.short);
      behind = drop h.record_bytes (drop 56 stream);
      text = header_spelled stream fits w.long
          ∙ ap (λ x. header_text x ++ drop 56 stream) read
          ∙ ap (λ xs. header_text h ++ xs) (sym (take-append-drop h.record_bytes (drop 56 stream)) ∙ ap (λ xs. xs ++ drop h.record_bytes (drop 56 stream)) (sym w.found.all));
    }

-- what a reader that is told so finds
pub on_read : (max_records max_bytes : ℕ) (stream : List ℕ) (result : Result Records TpiFault) → AreBytes stream → Tells damage_in (λ r. r) result (reading max_records max_bytes stream)
    → IfOk result (IsStream max_records max_bytes stream)
on_read max_records max_bytes stream (Ok r) fits told = spelled max_records max_bytes stream r fits told
on_read max_records max_bytes stream (Err e) fits told = tt
