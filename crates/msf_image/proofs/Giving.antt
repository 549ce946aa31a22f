-- The blocks that are given: in order, none of them reserved, and every one of them.
use Rattle.std.proofs.Common.{◌≡◌, ◌≤◌, ◌<◌, ◌+◌, ◌-◌, ◌*◌, ◌/◌, ◌%◌, ◌||◌, ℕ, Bool, true, false, ◌⊎◌, refl, sym, ap, subst, ◌∙◌, inl, inr, eqb, arith}
use Rattle.std.proofs.lemmas.Bool.{cases_eq, cases_lt, eq-eqb, ne_eqb, both_ways}
use Rattle.std.proofs.lemmas.Nat.{div-add-mod', div-mul-add, div_below, mod-mul-add, mod_below}
use Rattle.std.proofs.Math.Nat.{lt-div-mul-add, suc-mul}
use Rattle.msf_blocks.specs.Blocks.{IsBlockSize, IsReserved, is_reserved}
use Rattle.msf_blocks.proofs.Sizes.{sized}
use Rattle.msf_image.specs.Packed.{given_block, given_before}

-- where the k-th given block stands
pub record IsGiven (size k b : ℕ) : Type 0 where
  pub least : 3 ≤ b
  pub not_one : b % size ≡ 1 → ⊥
  pub not_two : b % size ≡ 2 → ⊥
  pub number : b - 3 - 2 * ((b - 1) / size) ≡ k

-- the block at a place of a run, of which the first two are for the maps
given_in_run : (n run place b : ℕ) → 0 < n → place < n → b ≡ run * (n + 2) + (place + 3) → IsGiven (n + 2) (run * n + place) b
given_in_run n run place b some lt at =
    let before : b - 1 ≡ run * (n + 2) + (place + 2) = omega (arith, at) in
    let number : (b - 1) / (n + 2) ≡ run = ap (λ m. m / (n + 2)) before ∙ div-mul-add run (n + 2) (place + 2) (omega (arith, lt)) in
    let above : (b % (n + 2) ≡ 0) ⊎ (b % (n + 2) ≡ place + 3) =
    elim (cases_lt (place + 3) (n + 2)) [
      | inl inside ↦ inr (ap (λ m. m % (n + 2)) at ∙ mod-mul-add run (n + 2) (place + 3) inside)
      | inr next ↦
          let whole : b ≡ (run + 1) * (n + 2) + 0 = omega (arith, at, next, lt) in
          inl (ap (λ m. m % (n + 2)) whole ∙ mod-mul-add (run + 1) (n + 2) 0 (omega arith))
    ]
    in
    record {
      least = omega (arith, at);
      not_one = λ e. elim above [ inl zero ↦ absurd (omega (arith, zero, e)) | inr more ↦ absurd (omega (arith, more, e)) ];
      not_two = λ e. elim above [ inl zero ↦ absurd (omega (arith, zero, e)) | inr more ↦ absurd (omega (arith, more, e)) ];
      number = omega (arith, at, number);
    }

given_at : (n k : ℕ) → 0 < n → IsGiven (n + 2) k (3 + k + 2 * (k / n))
given_at n k some =
    let split : k / n * n + k % n ≡ k = div-add-mod' k n in
    let at : 3 + k + 2 * (k / n) ≡ k / n * (n + 2) + (k % n + 3) = omega (arith, split) in
    subst (λ j. IsGiven (n + 2) j (3 + k + 2 * (k / n))) split (given_in_run n (k / n) (k % n) (3 + k + 2 * (k / n)) some (mod_below k n some) at)

-- a size without the two blocks of the maps in each run
two_more : (size : ℕ) → IsBlockSize size → size - 2 + 2 ≡ size
two_more size h = omega (arith, (sized size h).least)

pub given_is : (size k : ℕ) → IsBlockSize size → IsGiven size k (given_block size k)
unfolding given_block
given_is size k h =
    subst (λ n. IsGiven n k (3 + k + 2 * (k / (size - 2)))) (two_more size h) (given_at (size - 2) k (omega (arith, (sized size h).least)))

pub given_before_given : (size k : ℕ) → IsBlockSize size → given_before size (given_block size k) ≡ k
unfolding given_before
given_before_given size k h = (given_is size k h).number

-- none is reserved
pub given_unreserved : (size k : ℕ) → IsBlockSize size → is_reserved size (given_block size k) ≡ false
given_unreserved size k h =
    let is = given_is size k h in
    let zero_no = ne_eqb (given_block size k) 0 (λ e. omega (arith, e, is.least)) in
    let one_no = ne_eqb (given_block size k % size) 1 is.not_one in
    let two_no = ne_eqb (given_block size k % size) 2 is.not_two in
    ap (λ t. t || eqb (given_block size k % size) 1 || eqb (given_block size k % size) 2) zero_no ∙ ap (λ t. false || t || eqb (given_block size k % size) 2) one_no ∙ ap (λ t. false || false || t) two_no

-- they rise
pub no_earlier : (size j k : ℕ) → IsBlockSize size → j ≤ k → given_block size j ≤ given_block size k
unfolding given_block
no_earlier size j k h le =
    let some : 0 < size - 2 = omega (arith, (sized size h).least) in
    let next : k < k / (size - 2) * (size - 2) + (size - 2) = lt-div-mul-add some in
    let runs : j / (size - 2) < k / (size - 2) + 1 = div_below j (size - 2) (k / (size - 2) + 1) some (omega (arith, le, next, suc-mul (k / (size - 2)) (size - 2))) in
    omega (arith, le, runs)

-- no two of them are one
pub given_once : (size j k : ℕ) → IsBlockSize size → given_block size j ≡ given_block size k → j ≡ k
given_once size j k h same = sym (given_before_given size j h) ∙ ap (given_before size) same ∙ given_before_given size k h

pub rises : (size j k : ℕ) → IsBlockSize size → j < k → given_block size j < given_block size k
rises size j k h lt =
    let le : given_block size j ≤ given_block size k = no_earlier size j k h (omega (arith, lt)) in
    let apart : given_block size j ≡ given_block size k → ⊥ = λ e. let same = given_once size j k h e in omega (arith, same, lt) in
    omega (arith, le, apart)

-- and none is left out
found_in_run : (n run place b : ℕ) → 0 < n → place < n → b ≡ run * (n + 2) + (place + 3) → 3 + (run * n + place) + 2 * ((run * n + place) / n) ≡ b
found_in_run n run place b some lt at = omega (arith, at, div-mul-add run n place lt)

found_at : (n b : ℕ) → 0 < n → 3 ≤ b → (b % (n + 2) ≡ 1 → ⊥) → (b % (n + 2) ≡ 2 → ⊥)
    → 3 + (b - 3 - 2 * ((b - 1) / (n + 2))) + 2 * ((b - 3 - 2 * ((b - 1) / (n + 2))) / n) ≡ b
found_at n b some least first second =
    let run = (b - 1) / (n + 2) in
    let r = (b - 1) % (n + 2) in
    let split : run * (n + 2) + r ≡ b - 1 = div-add-mod' (b - 1) (n + 2) in
    let low : r < n + 2 = mod_below (b - 1) (n + 2) (omega arith) in
    let enough : 2 ≤ r =
    elim (cases_lt r 2) [
      | inr is ↦ is
      | inl few ↦
          let at : b ≡ run * (n + 2) + (r + 1) = omega (arith, split, least) in
          let left : b % (n + 2) ≡ r + 1 = ap (λ m. m % (n + 2)) at ∙ mod-mul-add run (n + 2) (r + 1) (omega (arith, few, some)) in
          elim (cases_eq r 0) [
            | inl none ↦ absurd (first (omega (arith, left, none)))
            | inr one ↦ absurd (second (omega (arith, left, few, one)))
          ]
    ]
    in
    let place = r - 2 in
    let k : b - 3 - 2 * run ≡ run * n + place = omega (arith, split, least, enough) in
    ap (λ j. 3 + j + 2 * (j / n)) k ∙ found_in_run n run place b some (omega (arith, low, enough)) (omega (arith, split, least, enough))

pub none_left : (size b : ℕ) → IsBlockSize size → 3 ≤ b → ¬ IsReserved size b → given_block size (given_before size b) ≡ b
unfolding given_block given_before
none_left size b h least unreserved =
    subst (λ m. (b % m ≡ 1 → ⊥) → (b % m ≡ 2 → ⊥) → 3 + (b - 3 - 2 * ((b - 1) / m)) + 2 * ((b - 3 - 2 * ((b - 1) / m)) / (size - 2)) ≡ b) (two_more size h)
    (found_at (size - 2) b (omega (arith, (sized size h).least)) least) (λ e. unreserved (ap (λ t. eqb b 0 || t || eqb (b % size) 2) (eq-eqb (b % size) 1 e) ∙ middle (eqb b 0) (eqb (b % size) 2)))
    (λ e. unreserved (ap (λ t. eqb b 0 || eqb (b % size) 1 || t) (eq-eqb (b % size) 2 e) ∙ last (eqb b 0 || eqb (b % size) 1)))
  where
    middle : (t u : Bool) → (t || true || u) ≡ true
    middle true u = refl
    middle false u = refl

    last : (t : Bool) → (t || true) ≡ true
    last true = refl
    last false = refl

pub unreserved_given : (size k : ℕ) → IsBlockSize size → ¬ IsReserved size (given_block size k)
unreserved_given size k h reserved = both_ways (is_reserved size (given_block size k)) (given_unreserved size k h) reserved
