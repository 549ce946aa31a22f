-- The elements of a list one at a time, as loops meet them.
use Rattle.std.proofs.Common.{◌≡◌, ◌≤◌, ◌<◌, ◌+◌, ℕ, zero, suc, List, [], ◌∷◌, ◌++◌, Some, get_or, slice_get, length, take, refl, sym, ap, ◌∙◌, arith}
use Rattle.std.specs.List.{flat_map, range_with_len}
use Rattle.std.proofs.lemmas.List.{flat_map_more, take_more}
use Rattle.std.proofs.lemmas.Option.{get_or_from_slice_get, slice_get_read}
use Rattle.names_table.specs.Names.{bytes_of}
use Rattle.names_table.proofs.Offsets.{bytes_of-push}

-- an element that was read, under any other value for what is not there
pub read_is : {A : Type 0} (xs : List A) (i : ℕ) (x d : A) → i < length xs → x ≡ get_or xs i x → x ≡ get_or xs i d
read_is xs i x d lt is = sym (get_or_from_slice_get xs i x d (slice_get_read xs (length xs) i x refl lt is))

-- a list up to the next place
take_next : {A : Type 0} (i : ℕ) (xs : List A) (x : A) → slice_get xs i ≡ Some x → i < length xs → take (i + 1) xs ≡ take i xs ++ x ∷ []
take_next i xs x is lt = take_more xs i x lt ∙ ap (λ y. take i xs ++ y ∷ []) (get_or_from_slice_get xs i x x is)

-- where the name behind this one begins
pub bytes_next : (names : List (List ℕ)) (i : ℕ) (name : List ℕ) → slice_get names i ≡ Some name → i < length names → bytes_of (take (i + 1) names) ≡ bytes_of (take i names) + (length name + 1)
bytes_next names i name is lt = ap bytes_of (take_next i names name is lt) ∙ bytes_of-push (take i names) name ∙ omega arith

-- the empty name takes its byte
some : (names : List (List ℕ)) → 1 ≤ bytes_of names
some [] = omega arith
some (x ∷ names) = omega (arith, some names)

-- no name begins behind the end
pub bytes_most : (names : List (List ℕ)) (i : ℕ) → bytes_of (take i names) ≤ bytes_of names
bytes_most [] zero = omega arith
bytes_most [] (suc i) = omega arith
bytes_most (x ∷ names) zero = some (x ∷ names)
bytes_most (x ∷ names) (suc i) = omega (arith, bytes_most names i)

one_more : (n : ℕ) → suc n + 1 ≡ suc (n + 1)
one_more n = omega arith

next : (a n : ℕ) → a + 1 + n ≡ a + suc n
next a n = omega arith

range_next : (a n : ℕ) → range_with_len a (n + 1) ≡ range_with_len a n ++ (a + n) ∷ []
range_next a zero = ap (λ k. k ∷ []) (omega arith)
range_next a (suc n) =
    ap (λ (k : ℕ). range_with_len a k) (one_more n) ∙ ap (λ xs. a ∷ xs) (range_next (a + 1) n ∙ ap (λ (k : ℕ). range_with_len (a + 1) n ++ k ∷ []) (next a n))

-- what is put for the places below the next one
pub put_next : {A : Type 0} (f : ℕ → List A) (old now : List A) (i : ℕ) → now ≡ old ++ flat_map f (range_with_len 0 i) → now ++ f i ≡ old ++ flat_map f (range_with_len 0 (i + 1))
put_next f old now i is =
    ap (λ xs. xs ++ f i) is ∙ flat_map_more f old (range_with_len 0 i) i ∙ ap (λ xs. old ++ flat_map f xs) (ap (λ k. range_with_len 0 i ++ k ∷ []) (omega arith) ∙ sym (range_next 0 i))
