-- The texts of records, and of more records behind them.
use Rattle.std.proofs.Common.{◌≡◌, ◌≤◌, ◌<◌, ◌+◌, ◌-◌, ◌*◌, ◌/◌, ◌%◌, ℕ, zero, suc, List, [], ◌∷◌, ◌++◌, Result, Ok, Err, OnOk, length, map, take, drop, get_or, append_assoc, refl, sym, ap, ◌∙◌, arith}
use Rattle.std.specs.List.{flat_map, range_with_len}
use Rattle.byteorder.specs.Endian.{little_bytes}
use Rattle.std.proofs.lemmas.Grind.{flat_map-append}
use Rattle.std.proofs.lemmas.List.{get_or-append-add, get_or_append_left, drop-append-le, drop-map, length-append, length-drop, length-take-le, take-append-drop, take-append-le, drop_all}
use Rattle.std.proofs.lemmas.List.Folds.{flat_map-map}
use Rattle.std.proofs.lemmas.Nat.{div-add-mod'}
use Rattle.std.proofs.Math.Seq.{drop-append-add}
use Rattle.srv_edge.specs.Records.{joined}
use Rattle.type_hash.specs.Record.{record_hash}
use Rattle.tpi_stream.specs.declared.header.Kept.{Kept}
use Rattle.tpi_stream.specs.Hashes.{bucket_text, hash_text, hash_values, index_offsets, offset_between, offset_text, offsets_between, start_at}
use Rattle.tpi_stream.specs.HeaderText.{header_text}
use Rattle.tpi_stream.specs.Written.{record_stream_text, written_header}
use Rattle.tpi_stream.proofs.HeaderTexts.{length-header_text}

pub joined-append : (xs ys : List (List ℕ)) → joined (xs ++ ys) ≡ joined xs ++ joined ys
joined-append [] ys = refl
joined-append (x ∷ xs) ys = ap (λ s. x ++ s) (joined-append xs ys) ∙ sym (append_assoc x (joined xs) (joined ys))

pub length-joined-append : (xs ys : List (List ℕ)) → length (joined (xs ++ ys)) ≡ length (joined xs) + length (joined ys)
length-joined-append xs ys = ap length (joined-append xs ys) ∙ length-append (joined xs) (joined ys)

pub byte-joined : (xs ys : List (List ℕ)) (k : ℕ) → k < length (joined xs) → get_or (joined (xs ++ ys)) k 0 ≡ get_or (joined xs) k 0
byte-joined xs ys k lt = ap (λ s. get_or s k 0) (joined-append xs ys) ∙ get_or_append_left (joined xs) (joined ys) 0 k lt

-- ---- the stream

pub byte-record_stream_text : (kept : Kept) (records : List (List ℕ)) (k : ℕ) → get_or (record_stream_text kept records) (56 + k) 0 ≡ get_or (joined records) k 0
unfolding record_stream_text
byte-record_stream_text kept records k =
    let h = header_text (written_header kept records) in
    ap (λ n. get_or (h ++ joined records) (n + k) 0) (sym (length-header_text (written_header kept records))) ∙ get_or-append-add h (joined records) k 0

-- ---- the hashes

pub length-hash_values : (buckets : ℕ) (records : List (List ℕ)) → length (hash_values buckets records) ≡ 4 * length records
unfolding hash_values
length-hash_values buckets [] = refl
length-hash_values buckets (r ∷ records) = omega (arith, length-append (bucket_text buckets r) (flat_map (bucket_text buckets) records), length-hash_values buckets records)

pub hash_values-append : (buckets : ℕ) (xs ys : List (List ℕ)) → hash_values buckets (xs ++ ys) ≡ hash_values buckets xs ++ hash_values buckets ys
unfolding hash_values
hash_values-append buckets xs ys = flat_map-append (bucket_text buckets) xs ys

pub length-hash_text : (buckets : ℕ) (records : List (List ℕ)) → length (hash_text records buckets) ≡ 4 * length records + length (index_offsets records)
length-hash_text buckets records = length-append (hash_values buckets records) (index_offsets records) ∙ ap (λ n. n + length (index_offsets records)) (length-hash_values buckets records)

-- a byte of the hashes
byte-hashes : (buckets : ℕ) (records : List (List ℕ)) (k : ℕ) → k < 4 * length records → get_or (hash_text records buckets) k 0 ≡ get_or (hash_values buckets records) k 0
byte-hashes buckets records k lt = get_or_append_left (hash_values buckets records) (index_offsets records) 0 k (omega (arith, lt, length-hash_values buckets records))

pub byte-hash_text : (buckets : ℕ) (xs ys : List (List ℕ)) (k : ℕ) → k < 4 * length xs → get_or (hash_text xs buckets) k 0 ≡ get_or (hash_text (xs ++ ys) buckets) k 0
byte-hash_text buckets xs ys k lt =
    let all = length-append xs ys in
    byte-hashes buckets xs k lt
    ∙ sym (byte-hashes buckets (xs ++ ys) k (omega (arith, lt, all)) ∙ ap (λ s. get_or s k 0) (hash_values-append buckets xs ys)
    ∙ get_or_append_left (hash_values buckets xs) (hash_values buckets ys) 0 k (omega (arith, lt, length-hash_values buckets xs)))

-- ---- the index offsets

range-append : (a m n : ℕ) → range_with_len a (m + n) ≡ range_with_len a m ++ range_with_len (a + m) n
range-append a zero n = λ i. range_with_len (none i) (count i)
  where
    none : a ≡ a + 0
    none = omega arith

    count : 0 + n ≡ n
    count = omega arith
range-append a (suc m) n = ap (λ (k : ℕ). range_with_len a k) count ∙ ap (λ xs. a ∷ xs) (range-append (a + 1) m n ∙ ap (λ k. range_with_len (a + 1) m ++ range_with_len k n) next)
  where
    count : suc m + n ≡ suc (m + n)
    count = omega arith

    next : a + 1 + m ≡ a + suc m
    next = omega arith

pub start-append : (xs ys : List (List ℕ)) (i : ℕ) → i ≤ length xs → start_at (xs ++ ys) i ≡ start_at xs i
start-append xs ys i le = ap (λ records. length (joined records)) (take-append-le i xs ys le)

-- those of the first records are as they were
offsets_before : (xs ys : List (List ℕ)) (i count : ℕ) → i + count ≤ length xs → offsets_between (xs ++ ys) i count ≡ offsets_between xs i count
offsets_before xs ys i zero le = refl
offsets_before xs ys i (suc count) le =
    let first : offset_text (xs ++ ys) i ≡ offset_text xs i = λ k. offset_between i (start-append xs ys i (omega (arith, le)) k) (start-append xs ys (i + 1) (omega (arith, le)) k) in
    ap (λ s. s ++ offsets_between (xs ++ ys) (i + 1) count) first ∙ ap (λ s. offset_text xs i ++ s) (offsets_before xs ys (i + 1) count (omega (arith, le)))

pub index_offsets-append : (xs ys : List (List ℕ)) → index_offsets (xs ++ ys) ≡ index_offsets xs ++ offsets_between (xs ++ ys) (length xs) (length ys)
unfolding index_offsets
index_offsets-append xs ys =
    let f = offset_text (xs ++ ys) in
    ap (λ n. flat_map f (range_with_len 0 n)) (length-append xs ys) ∙ ap (flat_map f) (range-append 0 (length xs) (length ys)) ∙ flat_map-append f (range_with_len 0 (length xs)) (range_with_len (0 + length xs) (length ys))
    ∙ ap (λ s. s ++ flat_map f (range_with_len (0 + length xs) (length ys))) (offsets_before xs ys 0 (length xs) (omega arith))
    ∙ ap (λ n. flat_map (offset_text xs) (range_with_len 0 (length xs)) ++ flat_map f (range_with_len n (length ys))) (front (length xs))
  where
    front : (n : ℕ) → 0 + n ≡ n
    front n = omega arith

pub offsets_grow : (xs ys : List (List ℕ)) → length (index_offsets xs) ≤ length (index_offsets (xs ++ ys))
offsets_grow xs ys = omega (arith, ap length (index_offsets-append xs ys), length-append (index_offsets xs) (offsets_between (xs ++ ys) (length xs) (length ys)))

-- ---- parts of the hash stream

pub offsets_split : (records : List (List ℕ)) (from : ℕ) → from ≤ length records → index_offsets records ≡ index_offsets (take from records) ++ offsets_between records from (length records - from)
offsets_split records from le =
    let xs = take from records in
    let ys = drop from records in
    let whole : xs ++ ys ≡ records = take-append-drop from records in
    let n : length xs ≡ from = length-take-le from records le in
    let m : length ys ≡ length records - from = length-drop from records in
    sym (ap index_offsets whole) ∙ index_offsets-append xs ys ∙ λ k. index_offsets xs ++ offsets_between (whole k) (n k) (m k)

pub on_extended : {E : Type 0} (result : Result (Unit {0}) E) (records : List (List ℕ)) (from : ℕ) (old new : List ℕ) → from ≤ length records → old ≡ index_offsets (take from records)
    → OnOk result (new ≡ old ++ offsets_between records from (length records - from)) → OnOk result (new ≡ index_offsets records)
on_extended (Ok x) records from old new le before is = is ∙ ap (λ s. s ++ offsets_between records from (length records - from)) before ∙ sym (offsets_split records from le)
on_extended (Err e) records from old new le before is = tt

drop-hash_values : (buckets : ℕ) (records : List (List ℕ)) (k : ℕ) → drop (4 * k) (hash_values buckets records) ≡ hash_values buckets (drop k records)
unfolding hash_values
drop-hash_values buckets [] zero = refl
drop-hash_values buckets [] (suc k) = drop_all (4 * suc k) [] (omega arith)
drop-hash_values buckets (r ∷ records) zero = refl
drop-hash_values buckets (r ∷ records) (suc k) =
    let first = bucket_text buckets r in
    let rest = flat_map (bucket_text buckets) records in
    ap (λ n. drop n (first ++ rest)) (next k) ∙ drop-append-add first rest (4 * k) ∙ drop-hash_values buckets records k
  where
    next : (k : ℕ) → 4 * suc k ≡ length (bucket_text buckets r) + 4 * k
    next k = omega arith

pub rest_of_hash_text : (buckets : ℕ) (records : List (List ℕ)) (at : ℕ) → at % 4 ≡ 0 → at ≤ 4 * length records → drop at (hash_text records buckets) ≡ hash_values buckets (drop (at / 4) records) ++ index_offsets records
rest_of_hash_text buckets records at whole le =
    let n : at ≡ 4 * (at / 4) = omega (arith, div-add-mod' at 4, whole) in
    drop-append-le at (hash_values buckets records) (index_offsets records) (omega (arith, le, length-hash_values buckets records))
    ∙ ap (λ s. s ++ index_offsets records) (ap (λ m. drop m (hash_values buckets records)) n ∙ drop-hash_values buckets records (at / 4))

-- the buckets of the hashes from a position on are those of the records
pub buckets_of_hashes : (buckets : ℕ) (records : List (List ℕ)) (hashes : List ℕ) (from : ℕ) → hashes ≡ map record_hash records → flat_map (λ h. little_bytes 4 (h % buckets)) (drop from hashes) ≡ hash_values buckets (drop from records)
unfolding hash_values
buckets_of_hashes buckets records hashes from is =
    let put : List ℕ → List ℕ = flat_map (λ h. little_bytes 4 (h % buckets)) in
    ap (λ hs. put (drop from hs)) is ∙ ap put (drop-map record_hash from records) ∙ flat_map-map (λ h. little_bytes 4 (h % buckets)) record_hash (drop from records)
