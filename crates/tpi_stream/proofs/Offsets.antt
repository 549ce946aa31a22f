-- The hash stream, one record at a time.
use Rattle.std.proofs.Common.{◌≡◌, ◌≤◌, ◌<◌, ◌+◌, ◌-◌, ℕ, zero, suc, List, [], ◌∷◌, ◌++◌, Some, get_or, slice_get, length, take, append_assoc, refl, sym, ap, ◌∙◌, arith}
use Rattle.std.specs.Option.{unwrap_or}
use Rattle.std.proofs.lemmas.List.{append-nil, length-append, take_more}
use Rattle.srv_edge.specs.Records.{joined}
use Rattle.tpi_stream.specs.Hashes.{offset_text, offsets_between, start_at}
use Rattle.tpi_stream.proofs.RecordLists.{length-joined_push}

-- a list up to the next place
get_is : {A : Type 0} (i : ℕ) (xs : List A) (x : A) → slice_get xs i ≡ Some x → get_or xs i x ≡ x
get_is zero [] x is = refl
get_is (suc i) [] x is = refl
get_is zero (y ∷ xs) x is = ap (λ o. unwrap_or o x) is
get_is (suc i) (y ∷ xs) x is = get_is i xs x is

take_next : {A : Type 0} (i : ℕ) (xs : List A) (x : A) → slice_get xs i ≡ Some x → i < length xs → take (i + 1) xs ≡ take i xs ++ x ∷ []
take_next i xs x is lt = take_more xs i x lt ∙ ap (λ y. take i xs ++ y ∷ []) (get_is i xs x is)

-- where the next record begins
pub start_next : (records : List (List ℕ)) (i : ℕ) (r : List ℕ) → slice_get records i ≡ Some r → i < length records → start_at records (i + 1) ≡ start_at records i + length r
start_next records i r is lt = ap (λ xs. length (joined xs)) (take_next i records r is lt) ∙ length-joined_push (take i records) r

-- no start is behind the end
pub start_most : (records : List (List ℕ)) (i : ℕ) → start_at records i ≤ length (joined records)
start_most [] zero = omega arith
start_most [] (suc i) = omega arith
start_most (r ∷ records) zero = omega arith
start_most (r ∷ records) (suc i) = omega (arith, start_most records i, length-append r (joined (take i records)), length-append r (joined records))

-- ---- what is still to be put

-- the index offset of the record at a position, and of those behind it
pub offsets_next : (records : List (List ℕ)) (i n : ℕ) → i < n → offsets_between records i (n - i) ≡ offset_text records i ++ offsets_between records (i + 1) (n - (i + 1))
offsets_next records i n lt = ap (offsets_between records i) (count n lt)
  where
    count : (n : ℕ) → i < n → n - i ≡ suc (n - (i + 1))
    count n lt = omega (arith, lt)

pub offsets_end : (records : List (List ℕ)) (i n : ℕ) → n ≤ i → offsets_between records i (n - i) ≡ []
offsets_end records i n le = ap (offsets_between records i) (none n le)
  where
    none : (n : ℕ) → n ≤ i → n - i ≡ 0
    none n le = omega (arith, le)

-- one piece is put, and the rest is still to be put
pub put_one : (old all now piece rest left : List ℕ) → now ++ left ≡ old ++ all → left ≡ piece ++ rest → (now ++ piece) ++ rest ≡ old ++ all
put_one old all now piece rest left so_far is = append_assoc now piece rest ∙ ap (λ s. now ++ s) (sym is) ∙ so_far

-- nothing is left
pub put_all : (old all now left : List ℕ) → now ++ left ≡ old ++ all → left ≡ [] → now ≡ old ++ all
put_all old all now left so_far none = sym (append-nil now) ∙ ap (λ s. now ++ s) (sym none) ∙ so_far
