-- Records at the front of bytes, one at a time.
use Rattle.std.proofs.Common.{◌≡◌, ◌≤◌, ◌<◌, ◌+◌, ◌-◌, ℕ, zero, suc, Bool, true, false, cond, List, [], ◌∷◌, ◌++◌, Result, Ok, Err, length, take, drop, refl, sym, ap, ◌∙◌, arith, leb-true}
use Rattle.std.proofs.lemmas.Bool.{and_parts}
use Rattle.std.proofs.lemmas.List.{append_assoc, append-nil, length-append, length-drop, length-take-le}
use Rattle.msf_blocks.specs.Judging.{◌>>=◌}
use Rattle.srv_edge.specs.Records.{joined}
use Rattle.tpi_stream.specs.declared.fault.TpiFault.{TpiFault}
use Rattle.tpi_stream.specs.declared.fault.TpiFault.TheVariants.{Record}
use Rattle.tpi_stream.specs.Reading.{has_record, records_in, size_of, with_record}

-- what the test says
pub record Whole (bytes : List ℕ) : Type 0 where
  pub two : 2 ≤ length bytes
  pub least : 4 ≤ size_of bytes
  pub fits : size_of bytes ≤ length bytes

pub whole_record : (bytes : List ℕ) → has_record bytes ≡ true → Whole bytes
whole_record bytes is =
    let a = and_parts _ _ is in
    let b = and_parts _ _ a.1 in
    record { two = leb-true 2 (length bytes) a.0; least = leb-true 4 (size_of bytes) b.0; fits = leb-true (size_of bytes) (length bytes) b.1 }

same_behind : (test : Bool) (first : List ℕ) (x y e : Result (List (List ℕ)) TpiFault) → (test ≡ true → x ≡ y) → cond test (with_record first x) e ≡ cond test (with_record first y) e
same_behind true first x y e same = ap (with_record first) (same refl)
same_behind false first x y e same = refl

-- the bound on how many there may be does not matter
pub any_most : (m n at : ℕ) (bytes : List ℕ) → length bytes ≤ m → length bytes ≤ n → records_in m at bytes ≡ records_in n at bytes
unfolding records_in
any_most zero zero at [] le le' = refl
any_most zero (suc n) at [] le le' = refl
any_most (suc m) zero at [] le le' = refl
any_most (suc m) (suc n) at [] le le' = refl
any_most zero n at (b ∷ bytes) le le' = absurd (omega (arith, le))
any_most (suc m) zero at (b ∷ bytes) le le' = absurd (omega (arith, le'))
any_most (suc m) (suc n) at (b ∷ bytes) le le' =
    let size = size_of (b ∷ bytes) in
    let rest = drop size (b ∷ bytes) in
    same_behind (has_record (b ∷ bytes)) (take size (b ∷ bytes)) (records_in m (at + size) rest) (records_in n (at + size) rest) (Err (Record at))
    (λ is. any_most m n (at + size) rest (omega (arith, le, length-drop size (b ∷ bytes), (whole_record (b ∷ bytes) is).least)) (omega (arith, le', length-drop size (b ∷ bytes), (whole_record (b ∷ bytes) is).least)))

-- a record, and then those behind it
pub records_next : (at : ℕ) (bytes : List ℕ) → has_record bytes ≡ true
    → records_in (length bytes) at bytes ≡ with_record (take (size_of bytes) bytes) (records_in (length (drop (size_of bytes) bytes)) (at + size_of bytes) (drop (size_of bytes) bytes))
unfolding records_in
records_next at [] is = absurd (omega (arith, (whole_record [] is).two))
records_next at (b ∷ bytes) is =
    let size = size_of (b ∷ bytes) in
    let rest = drop size (b ∷ bytes) in
    let first = take size (b ∷ bytes) in
    let w = whole_record (b ∷ bytes) is in
    let fewer : length rest ≤ length bytes = omega (arith, length-drop size (b ∷ bytes), w.least) in
    ap (λ t. cond t (with_record first (records_in (length bytes) (at + size) rest)) (Err (Record at))) is
    ∙ ap (with_record first) (any_most (length bytes) (length rest) (at + size) rest fewer (omega arith))

-- no record
pub records_none : (at : ℕ) (bytes : List ℕ) → 0 < length bytes → has_record bytes ≡ false → records_in (length bytes) at bytes ≡ Err (Record at)
unfolding records_in
records_none at [] lt is = absurd (omega (arith, lt))
records_none at (b ∷ bytes) lt is =
    let size = size_of (b ∷ bytes) in
    ap (λ t. cond t (with_record (take size (b ∷ bytes)) (records_in (length bytes) (at + size) (drop size (b ∷ bytes)))) (Err (Record at))) is

pub records_end : (at : ℕ) (bytes : List ℕ) → length bytes ≡ 0 → records_in (length bytes) at bytes ≡ Ok []
unfolding records_in
records_end at [] len = refl
records_end at (b ∷ bytes) len = absurd (omega (arith, len))

-- ---- the records before a place, and those behind it

abbrev pub with_front : List (List ℕ) → Result (List (List ℕ)) TpiFault → Result (List (List ℕ)) TpiFault
with_front front later = later >>= λ records. Ok (front ++ records)

pub front_more : (front : List (List ℕ)) (r : List ℕ) (later : Result (List (List ℕ)) TpiFault) → with_front front (with_record r later) ≡ with_front (front ++ r ∷ []) later
front_more front r (Ok records) = ap (λ xs. Ok xs) (sym (append_assoc front (r ∷ []) records))
front_more front r (Err fault) = refl

pub length-joined_push : (records : List (List ℕ)) (r : List ℕ) → length (joined (records ++ r ∷ [])) ≡ length (joined records) + length r
length-joined_push [] r = omega (arith, length-append r [])
length-joined_push (x ∷ records) r =
    let ih = length-joined_push records r in
    omega (arith, ih, length-append x (joined records), length-append x (joined (records ++ r ∷ [])))

-- how far a reader of bytes has come: the records so far, and the bytes behind them
pub record SoFar (bytes : List ℕ) (list : List (List ℕ)) (rest : List ℕ) : Type 0 where
  pub told : records_in (length bytes) 56 bytes ≡ with_front list (records_in (length rest) (56 + (length bytes - length rest)) rest)
  pub bytes_are : length (joined list) + length rest ≡ length bytes
  pub few : length list ≤ length (joined list)

pub so_far_next : (bytes : List ℕ) (list : List (List ℕ)) (rest : List ℕ) → SoFar bytes list rest → has_record rest ≡ true
    → SoFar bytes (list ++ take (size_of rest) rest ∷ []) (drop (size_of rest) rest)
so_far_next bytes list rest so is =
    let size = size_of rest in
    let r = take size rest in
    let behind = drop size rest in
    let w = whole_record rest is in
    let len : length r ≡ size = length-take-le size rest w.fits in
    let left : length behind ≡ length rest - size = length-drop size rest in
    let pushed = length-joined_push list r in
    let at : 56 + (length bytes - length rest) + size ≡ 56 + (length bytes - length behind) = omega (arith, left, w.fits, so.bytes_are) in
    record {
      told = so.told ∙ ap (with_front list) (records_next (56 + (length bytes - length rest)) rest is) ∙ front_more list r (records_in (length behind) (56 + (length bytes - length rest) + size) behind)
          ∙ ap (λ k. with_front (list ++ r ∷ []) (records_in (length behind) k behind)) at;
      bytes_are = omega (arith, pushed, len, left, w.fits, so.bytes_are);
      few = omega (arith, pushed, len, so.few, w.least, length-append list (r ∷ []));
    }

pub so_far_end : (bytes : List ℕ) (list : List (List ℕ)) (rest : List ℕ) → SoFar bytes list rest → length rest ≡ 0 → records_in (length bytes) 56 bytes ≡ Ok list
so_far_end bytes list rest so none =
    so.told ∙ ap (with_front list) (records_end (56 + (length bytes - length rest)) rest none) ∙ ap (λ xs. Ok xs) (append-nil list)

pub so_far_fault : (bytes : List ℕ) (list : List (List ℕ)) (rest : List ℕ) → SoFar bytes list rest → 0 < length rest → has_record rest ≡ false
    → records_in (length bytes) 56 bytes ≡ Err (Record (56 + (length bytes - length rest)))
so_far_fault bytes list rest so some is = so.told ∙ ap (with_front list) (records_none (56 + (length bytes - length rest)) rest some is)
