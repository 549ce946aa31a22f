-- The blocks that are given: unreserved, rising, and none from which the old image is read.
use Rattle.std.proofs.Common.{◌≡◌, ◌≤◌, ◌<◌, ◌+◌, ◌-◌, ◌*◌, ◌/◌, ◌%◌, ◌⊎◌, ◌||◌, ℕ, zero, suc, true, cond, List, [], ◌∷◌, length, take, get_or, All, refl, sym, ap, subst, ◌∙◌, inl, inr, eqb, ltb, arith}
use Rattle.std.specs.List.{AllByRecursion}
use Rattle.std.proofs.lemmas.Bool.{both_ways, cases_Bool, eq-eqb, eqb-true, le-ltb, lt-ltb, or_cases, cases_lt}
use Rattle.std.proofs.lemmas.List.{length-append, length-take}
use Rattle.std.proofs.lemmas.List.Elements.{recursion_from_All}
use Rattle.std.proofs.lemmas.List.Folds.{list_any_at}
use Rattle.std.proofs.lemmas.Nat.{div-add-mod', mod-mul-add}
use Rattle.std.proofs.Math.Nat.{suc-mul}
use Rattle.msf_blocks.specs.Blocks.{IsBlockSize, IsReserved}
use Rattle.msf_blocks.proofs.Sizes.{sized}
use Rattle.free_page_maps.specs.FreeBlocks.{FreeBlocks, is_free}
use Rattle.msf_image.specs.declared.image.Image.{Image}
use Rattle.msf_image.specs.Reads.{IsWhole}
use Rattle.cow_streams.specs.Supply.{blocks_with, next_unreserved, supply, unreserved_from}
use Rattle.cow_streams.proofs.Lists.{Rises, each_append, each_take, each_weaker, rises_append, rises_from_increasing, rises_take}

-- ---- blocks that are not reserved

reserved_cases : (size b : ℕ) → IsReserved size b → (b ≡ 0) ⊎ ((b % size ≡ 1) ⊎ (b % size ≡ 2))
reserved_cases size b is =
    elim (or_cases (eqb b 0 || eqb (b % size) 1) (eqb (b % size) 2) is) [
      | inl front ↦ elim (or_cases (eqb b 0) (eqb (b % size) 1) front) [ inl none ↦ inl (eqb-true b 0 none) | inr one ↦ inr (inl (eqb-true (b % size) 1 one)) ]
      | inr two ↦ inr (inr (eqb-true (b % size) 2 two))
    ]

unreserved_by : (size b : ℕ) → 1 ≤ b → (b % size ≡ 1 → ⊥) → (b % size ≡ 2 → ⊥) → ¬ IsReserved size b
unreserved_by size b some one two is =
    elim (reserved_cases size b is) [ inl none ↦ omega (arith, none, some) | inr others ↦ elim others [ inl is_one ↦ one is_one | inr is_two ↦ two is_two ] ]

pub unreserved_behind : (size b : ℕ) → ¬ IsReserved size b → 1 ≤ b
unreserved_behind size zero denied = absurd (denied refl)
unreserved_behind size (suc b) denied = omega arith

-- the block behind the two of the maps
behind_maps : (size b r : ℕ) → IsBlockSize size → b % size ≡ r → r ≤ 2 → ¬ IsReserved size (b + (3 - r))
behind_maps size b r h at most =
    let split : b / size * size + b % size ≡ b = div-add-mod' b size in
    let place : b + (3 - r) ≡ b / size * size + 3 = omega (arith, split, at, most) in
    let left : (b + (3 - r)) % size ≡ 3 = ap (λ m. m % size) place ∙ mod-mul-add (b / size) size 3 (omega (arith, (sized size h).least)) in
    unreserved_by size (b + (3 - r)) (omega (arith, most)) (λ one. omega (arith, one, left)) (λ two. omega (arith, two, left))

pub next_is : (size b : ℕ) → IsBlockSize size → 1 ≤ b → (b ≤ next_unreserved size b) × (¬ IsReserved size (next_unreserved size b))
next_is size b h some =
    let P = λ (n : ℕ). (b ≤ n) × (¬ IsReserved size n) in
    elim (cases_Bool (eqb (b % size) 1)) [
      | inl one ↦ subst P (sym (ap (λ t. cond t (b + 2) (cond (eqb (b % size) 2) (b + 1) b)) one)) (omega arith, behind_maps size b 1 h (eqb-true (b % size) 1 one) (omega arith))
      | inr not_one ↦
          subst P (sym (ap (λ t. cond t (b + 2) (cond (eqb (b % size) 2) (b + 1) b)) not_one))
          (elim (cases_Bool (eqb (b % size) 2)) [
            | inl two ↦ subst P (sym (ap (λ t. cond t (b + 1) b) two)) (omega arith, behind_maps size b 2 h (eqb-true (b % size) 2 two) (omega arith))
            | inr not_two ↦
                subst P (sym (ap (λ t. cond t (b + 1) b) not_two))
                (omega arith, unreserved_by size b some (λ e. both_ways (eqb (b % size) 1) not_one (eq-eqb (b % size) 1 e)) (λ e. both_ways (eqb (b % size) 2) not_two (eq-eqb (b % size) 2 e)))
          ])
    ]

-- so many of them from a block on
pub record IsRun (size b : ℕ) (xs : List ℕ) : Type 0 where
  pub unreserved : AllByRecursion (λ x. ¬ IsReserved size x) xs
  pub behind : AllByRecursion (λ x. b ≤ x) xs
  pub rises : Rises xs

pub run_is : (size b n : ℕ) → IsBlockSize size → 1 ≤ b → IsRun size b (unreserved_from size b n)
run_is size b zero h some = record { unreserved = tt; behind = tt; rises = tt }
run_is size b (suc n) h some =
    let next = next_unreserved size b in
    let is = next_is size b h some in
    let rest = run_is size (next + 1) n h (omega arith) in
    let xs = unreserved_from size (next + 1) n in
    record {
      unreserved = (is.1, rest.unreserved);
      behind = (is.0, each_weaker (λ x. next + 1 ≤ x) (λ x. b ≤ x) xs (λ x le. omega (arith, le, is.0)) rest.behind);
      rises = (each_weaker (λ x. next + 1 ≤ x) (λ x. next < x) xs (λ x le. omega (arith, le)) rest.behind, rest.rises);
    }

pub length-unreserved_from : (size b n : ℕ) → length (unreserved_from size b n) ≡ n
length-unreserved_from size b zero = refl
length-unreserved_from size b (suc n) = ap (λ k. suc k) (length-unreserved_from size (next_unreserved size b + 1) n)

-- ---- what is supplied

pub record IsSupply (old : Image) (xs : List ℕ) : Type 0 where
  pub rises : Rises xs
  pub unreserved : AllByRecursion (λ b. ¬ IsReserved old.head.block b) xs
  -- free in the old image or past its end
  pub spare : AllByRecursion (λ b. (is_free old.free b ≡ true) ⊎ (old.head.blocks ≤ b)) xs

all_free : (m : FreeBlocks) → All (λ b. is_free m b ≡ true) m.free
all_free m k d lt = let b = get_or m.free k d in list_any_at (λ x. eqb x b) m.free k d lt (eq-eqb b b refl)

pub supply_is : (old : Image) (n : ℕ) → IsWhole old → IsSupply old (supply old.head.block old.head.blocks old.free.free n)
unfolding supply
supply_is old n whole =
    let size = old.head.block in
    let end = old.head.blocks in
    let free = old.free.free in
    let front = take n free in
    let past = unreserved_from size end (n - length free) in
    let run = run_is size end (n - length free) whole.head.block (omega (arith, whole.head.least_blocks)) in
    let Spare = λ (b : ℕ). (is_free old.free b ≡ true) ⊎ (end ≤ b) in
    record {
      rises = rises_append front past end (rises_take n free (rises_from_increasing free whole.rising)) run.rises
          (each_take (λ b. b < end) n free (recursion_from_All (λ b. b < end) free whole.inside)) run.behind;
      unreserved = each_append (λ b. ¬ IsReserved size b) front past (each_take (λ b. ¬ IsReserved size b) n free (recursion_from_All (λ b. ¬ IsReserved size b) free whole.unreserved)) run.unreserved;
      spare = each_append Spare front past (each_take Spare n free (each_weaker (λ b. is_free old.free b ≡ true) Spare free (λ b is. inl is) (recursion_from_All (λ b. is_free old.free b ≡ true) free (all_free old.free))))
          (each_weaker (λ b. end ≤ b) Spare past (λ b le. inr le) run.behind);
    }

pub length-supply : (size blocks : ℕ) (free : List ℕ) (n : ℕ) → length (supply size blocks free n) ≡ n
unfolding supply
length-supply size blocks free n =
    omega (arith, length-append (take n free) (unreserved_from size blocks (n - length free)), length-take n free, length-unreserved_from size blocks (n - length free))

-- ---- how many blocks there are then

more_blocks : (blocks b : ℕ) → (blocks ≤ cond (ltb b blocks) blocks (b + 1)) × (b < cond (ltb b blocks) blocks (b + 1))
more_blocks blocks b =
    let P = λ (n : ℕ). (blocks ≤ n) × (b < n) in
    elim (cases_lt b blocks) [
      | inl lt ↦ subst P (sym (ap (λ t. cond t blocks (b + 1)) (lt-ltb b blocks lt))) (omega arith, lt)
      | inr le ↦ subst P (sym (ap (λ t. cond t blocks (b + 1)) (le-ltb b blocks le))) (omega (arith, le), omega arith)
    ]

pub no_fewer_blocks : (blocks : ℕ) (given : List ℕ) → blocks ≤ blocks_with blocks given
no_fewer_blocks blocks [] = omega arith
no_fewer_blocks blocks (b ∷ given) =
    let more = more_blocks blocks b in
    let rest = no_fewer_blocks (cond (ltb b blocks) blocks (b + 1)) given in
    omega (arith, more.0, rest)

pub given_inside : (blocks : ℕ) (given : List ℕ) → AllByRecursion (λ b. b < blocks_with blocks given) given
given_inside blocks [] = tt
given_inside blocks (b ∷ given) =
    let more = more_blocks blocks b in
    let rest = no_fewer_blocks (cond (ltb b blocks) blocks (b + 1)) given in
    (omega (arith, more.1, rest), given_inside (cond (ltb b blocks) blocks (b + 1)) given)

-- a file has all these blocks, if it has the old ones and those that are given
pub has_blocks_with : (size len blocks : ℕ) (given : List ℕ) → blocks * size ≤ len → AllByRecursion (λ b. b * size + size ≤ len) given → blocks_with blocks given * size ≤ len
has_blocks_with size len blocks [] has each = has
has_blocks_with size len blocks (b ∷ given) has each =
    has_blocks_with size len (cond (ltb b blocks) blocks (b + 1)) given
    (elim (cases_Bool (ltb b blocks)) [
      | inl old ↦ subst (λ n. n * size ≤ len) (sym (ap (λ t. cond t blocks (b + 1)) old)) has
      | inr new ↦ subst (λ n. n * size ≤ len) (sym (ap (λ t. cond t blocks (b + 1)) new)) (omega (arith, each.0, suc-mul b size))
    ])
    each.1
