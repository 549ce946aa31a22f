-- How many bytes lists of records and names take.
use Rattle.std.proofs.Common.{◌≡◌, ◌≤◌, ◌<◌, ◌+◌, ℕ, zero, suc, Bool, true, false, cond, List, [], ◌∷◌, ◌++◌, length, length-append, get_or, drop, Option, Some, None, refl, sym, ap, arith}
use Rattle.std.specs.Option.{option_map}
use Rattle.std.specs.Str.{bytes_eq}
use Rattle.srv_edge.specs.Records.{joined}
use Rattle.record_table.specs.Table.{place_of}
use Rattle.names_table.specs.Names.{bytes_of}

-- there are no more names than bytes
pub length-le : (names : List (List ℕ)) → length names ≤ bytes_of names
length-le [] = omega arith
length-le (x ∷ names) = omega (arith, length-le names)

-- the first byte is the NUL of the empty name
pub some-bytes : (names : List (List ℕ)) → 1 ≤ bytes_of names
some-bytes [] = omega arith
some-bytes (x ∷ names) = omega (arith, some-bytes names)

-- the bytes of the names from a place on, of which the first is this
pub bytes_of-at : (names : List (List ℕ)) (i : ℕ) (x : List ℕ) → i < length names → x ≡ get_or names i x → bytes_of (drop i names) ≡ length x + 1 + bytes_of (drop (i + 1) names)
bytes_of-at [] i x within at = absurd (omega arith)
bytes_of-at (y ∷ names) zero x within at = ap (λ z. length z + 1 + bytes_of names) (sym at)
bytes_of-at (y ∷ names) (suc i) x within at =
    let next : suc i + 1 ≡ suc (i + 1) = omega arith in
    rw next (bytes_of-at names i x (omega arith) at)

-- a name, its NUL and the first byte are among the bytes from it on
pub bytes_of-room : (names : List (List ℕ)) (i : ℕ) (x : List ℕ) → i < length names → x ≡ get_or names i x → length x + 2 ≤ bytes_of (drop i names)
bytes_of-room names i x within at = omega (arith, bytes_of-at names i x within at, some-bytes (drop (i + 1) names))

-- a name more
pub bytes_of-push : (names : List (List ℕ)) (name : List ℕ) → bytes_of (names ++ name ∷ []) ≡ bytes_of names + length name + 1
bytes_of-push [] name = omega arith
bytes_of-push (x ∷ names) name = omega (arith, bytes_of-push names name)

-- a record more
pub length-joined_push : (records : List (List ℕ)) (r : List ℕ) → length (joined (records ++ r ∷ [])) ≡ length (joined records) + length r
length-joined_push [] r = omega (arith, length-append r [])
length-joined_push (x ∷ records) r =
    omega (arith, length-joined_push records r, length-append x (joined records), length-append x (joined (records ++ r ∷ [])))

-- a place that is found is one of the list's
found_here : (n : ℕ) (b : Bool) (o : Option ℕ) (p : ℕ) → ((q : ℕ) → o ≡ Some q → q < n) → cond b (Some 0) (option_map (λ place. place + 1) o) ≡ Some p → p < n + 1
found_here n true o p rest e = let zeroth : 0 ≡ p = cc in omega arith
found_here n false None p rest e = absurd cc
found_here n false (Some q) p rest e = let next : q + 1 ≡ p = cc in omega (arith, rest q refl)

pub place_of-within : (records : List (List ℕ)) (r : List ℕ) (p : ℕ) → place_of records r ≡ Some p → p < length records
place_of-within [] r p e = absurd cc
place_of-within (x ∷ records) r p e =
    let h = found_here (length records) (bytes_eq x r) (place_of records r) p (λ q f. place_of-within records r q f) e in omega (arith, h)
