-- Bytes are read as the records of which they are joined.
use Rattle.std.proofs.Common.{◌≡◌, ◌+◌, ℕ, zero, suc, Bool, true, false, cond, List, [], ◌∷◌, ◌++◌, Result, Ok, Err, IfOk, length, take, drop, refl, sym, ap, subst, ◌∙◌, arith, le-leb}
use Rattle.std.specs.List.{AllByRecursion}
use Rattle.std.proofs.lemmas.Bool.{and_from}
use Rattle.std.proofs.lemmas.List.{length-append, length-take-le, take_at, drop_at, take-append-drop}
use Rattle.byteorder.specs.Numbers.{little_from-append, little_from-take}
use Rattle.srv_edge.specs.Records.{joined}
use Rattle.tpi_stream.specs.declared.fault.TpiFault.{TpiFault}
use Rattle.tpi_stream.specs.declared.fault.TpiFault.TheVariants.{Record}
use Rattle.tpi_stream.specs.Reading.{has_record, records_in, size_of, with_record}
use Rattle.tpi_stream.specs.Stream.{IsRecord}
use Rattle.tpi_stream.proofs.RecordLists.{records_end, records_next, whole_record}

size_in_front : (r rest : List ℕ) → IsRecord r → size_of (r ++ rest) ≡ length r
size_in_front r rest is = ap (λ n. n + 2) (little_from-append 2 r rest (omega (arith, is.least))) ∙ is.size

record_in_front : (r rest : List ℕ) → IsRecord r → has_record (r ++ rest) ≡ true
record_in_front r rest is =
    let size = size_in_front r rest is in
    let len = length-append r rest in
    and_from _ _ (le-leb 2 (length (r ++ rest)) (omega (arith, len, is.least)))
    (and_from _ _ (le-leb 4 (size_of (r ++ rest)) (omega (arith, size, is.least))) (le-leb (size_of (r ++ rest)) (length (r ++ rest)) (omega (arith, size, len))))

pub joined_read : (records : List (List ℕ)) (at : ℕ) → AllByRecursion IsRecord records → records_in (length (joined records)) at (joined records) ≡ Ok records
joined_read [] at all = records_end at [] refl
joined_read (r ∷ records) at all =
    let rest = joined records in
    let size = size_in_front r rest all.0 in
    let first : take (size_of (r ++ rest)) (r ++ rest) ≡ r = ap (λ n. take n (r ++ rest)) size ∙ take_at r rest (length r) refl in
    let behind : drop (size_of (r ++ rest)) (r ++ rest) ≡ rest = ap (λ n. drop n (r ++ rest)) size ∙ drop_at r rest (length r) refl in
    records_next at (r ++ rest) (record_in_front r rest all.0)
    ∙ ap (λ x. with_record x (records_in (length (drop (size_of (r ++ rest)) (r ++ rest))) (at + size_of (r ++ rest)) (drop (size_of (r ++ rest)) (r ++ rest)))) first
    ∙ ap (λ xs. with_record r (records_in (length xs) (at + size_of (r ++ rest)) xs)) behind
    ∙ ap (with_record r) (joined_read records (at + size_of (r ++ rest)) all.1)

-- records that are those of these bytes
pub record AreIn (bytes : List ℕ) (records : List (List ℕ)) : Type 0 where
  pub each : AllByRecursion IsRecord records
  pub all : joined records ≡ bytes

first_is_record : (bytes : List ℕ) → has_record bytes ≡ true → IsRecord (take (size_of bytes) bytes)
first_is_record bytes is =
    let w = whole_record bytes is in
    let len = length-take-le (size_of bytes) bytes w.fits in
    record { least = omega (arith, len, w.least); size = ap (λ n. n + 2) (little_from-take 0 2 (size_of bytes) bytes (omega (arith, w.least))) ∙ sym len }

-- the same of an answer
abbrev Finds : List ℕ → Result (List (List ℕ)) TpiFault → Type 0
Finds bytes r = IfOk r (AreIn bytes)

finds_more : (bytes : List ℕ) (later : Result (List (List ℕ)) TpiFault) → has_record bytes ≡ true → Finds (drop (size_of bytes) bytes) later → Finds bytes (with_record (take (size_of bytes) bytes) later)
finds_more bytes (Ok records) is found = record {
  each = (first_is_record bytes is, found.each);
  all = ap (λ xs. take (size_of bytes) bytes ++ xs) found.all ∙ take-append-drop (size_of bytes) bytes;
}
finds_more bytes (Err fault) is found = found

finds_by : (test : Bool) (bytes : List ℕ) (later : Result (List (List ℕ)) TpiFault) (e : TpiFault) → has_record bytes ≡ test → Finds (drop (size_of bytes) bytes) later
    → Finds bytes (cond test (with_record (take (size_of bytes) bytes) later) (Err e))
finds_by true bytes later e is found = finds_more bytes later is found
finds_by false bytes later e is found = tt

pub records_found : (most at : ℕ) (bytes : List ℕ) → IfOk (records_in most at bytes) (AreIn bytes)
unfolding records_in
records_found zero at [] = record { each = tt; all = refl }
records_found (suc most) at [] = record { each = tt; all = refl }
records_found zero at (b ∷ bytes) = tt
records_found (suc most) at (b ∷ bytes) =
    let size = size_of (b ∷ bytes) in
    finds_by (has_record (b ∷ bytes)) (b ∷ bytes) (records_in most (at + size) (drop size (b ∷ bytes))) (Record at) refl (records_found most (at + size) (drop size (b ∷ bytes)))

pub read_joined : (at : ℕ) (bytes : List ℕ) (records : List (List ℕ)) → records_in (length bytes) at bytes ≡ Ok records → AreIn bytes records
read_joined at bytes records is = subst (λ r. IfOk r (AreIn bytes)) is (records_found (length bytes) at bytes)
