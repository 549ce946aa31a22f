-- A walk along a chain.
use Rattle.std.proofs.Common.{◌≡◌, ◌≢◌, ◌≤◌, ◌<◌, ◌+◌, ◌%◌, inl, inr, ℕ, zero, suc, cond, List, [], ◌∷◌, length, Option, Some, None, MatchOption, ap, refl, sym, ◌∙◌, arith}
use Rattle.std.specs.List.{slice_get, slice_index}
use Rattle.std.proofs.lemmas.Bool.Decides.{eqb_tells}
use Rattle.std.proofs.lemmas.Bool.{eq-eqb}
use Rattle.chain_index.specs.Chains.{chain_below}

-- the number behind which a walk goes on: none is left below 0
abbrev pub past : Option ℕ → ℕ
past None = 0
past (Some k) = k + 1

-- a walk is at a record of the bucket, or at its end
abbrev pub IsIn : List ℕ → ℕ → ℕ → Option ℕ → Type 0
IsIn hashes heads bucket None = Unit {0}
IsIn hashes heads bucket (Some k) = (k < length hashes) × (slice_index hashes k % heads ≡ bucket)

-- a record of the bucket is the first of those up to it
pub below_here : (hashes : List ℕ) (heads bucket n : ℕ) → slice_index hashes n % heads ≡ bucket → chain_below hashes heads bucket (suc n) ≡ n ∷ chain_below hashes heads bucket n
below_here hashes heads bucket n is =
    ap (λ b. cond b (n ∷ chain_below hashes heads bucket n) (chain_below hashes heads bucket n)) (eq-eqb (slice_index hashes n % heads) bucket is)

-- a record of another bucket is none of them
pub below_other : (hashes : List ℕ) (heads bucket n : ℕ) → slice_index hashes n % heads ≢ bucket → chain_below hashes heads bucket (suc n) ≡ chain_below hashes heads bucket n
below_other hashes heads bucket n other =
    elim (eqb_tells (slice_index hashes n % heads) bucket) [
      | inl e ↦ absurd (other e.1)
      | inr e ↦ ap (λ b. cond b (n ∷ chain_below hashes heads bucket n) (chain_below hashes heads bucket n)) e.0
    ]

-- where a walk stands that begins below a number, and that nothing of the chain is between
pub landing : (hashes : List ℕ) (heads bucket n : ℕ) (at : Option ℕ) → n ≤ length hashes → at ≡ slice_get (chain_below hashes heads bucket n) 0 → IsIn hashes heads bucket at × (chain_below hashes heads bucket (past at) ≡ chain_below hashes heads bucket n)
landing hashes heads bucket zero at within is = rw is (tt, refl)
landing hashes heads bucket (suc n) at within is =
    elim (eqb_tells (slice_index hashes n % heads) bucket) [
      | inl e ↦
          let b = below_here hashes heads bucket n e.1 in
          let i : at ≡ Some n = is ∙ ap (λ c. slice_get c 0) b in
          let next : n + 1 ≡ suc n = omega arith in
          rw i ((omega arith, e.1), ap (chain_below hashes heads bucket) next)
      | inr e ↦
          let b = below_other hashes heads bucket n e.1 in
          let r = landing hashes heads bucket n at (omega arith) (is ∙ ap (λ c. slice_get c 0) b) in
          (r.0, r.1 ∙ sym b)
    ]

-- the records of the bucket up to one of them are it and those behind it
pub length-past : (hashes : List ℕ) (heads bucket k : ℕ) → slice_index hashes k % heads ≡ bucket → length (chain_below hashes heads bucket (past (Some k))) ≡ length (chain_below hashes heads bucket k) + 1
length-past hashes heads bucket k is =
    let next : k + 1 ≡ suc k = omega arith in
    let one : suc (length (chain_below hashes heads bucket k)) ≡ length (chain_below hashes heads bucket k) + 1 = omega arith in
    ap (λ n. length (chain_below hashes heads bucket n)) next ∙ ap length (below_here hashes heads bucket k is) ∙ one

-- a chain is its first record and those behind it
pub whole_chain : (hashes : List ℕ) (heads bucket n : ℕ) (at : Option ℕ) → at ≡ slice_get (chain_below hashes heads bucket n) 0 → MatchOption at (chain_below hashes heads bucket n ≡ []) (λ k. chain_below hashes heads bucket n ≡ k ∷ chain_below hashes heads (slice_index hashes k % heads) k)
whole_chain hashes heads bucket zero at is = rw is refl
whole_chain hashes heads bucket (suc n) at is =
    elim (eqb_tells (slice_index hashes n % heads) bucket) [
      | inl e ↦
          let b = below_here hashes heads bucket n e.1 in
          let i : at ≡ Some n = is ∙ ap (λ c. slice_get c 0) b in
          rw i (b ∙ ap (λ q. n ∷ chain_below hashes heads q n) (sym e.1))
      | inr e ↦
          let b = below_other hashes heads bucket n e.1 in
          rw b (whole_chain hashes heads bucket n at (is ∙ ap (λ c. slice_get c 0) b))
    ]

-- a walk goes down
pub past-le : (hashes : List ℕ) (heads bucket n : ℕ) (at : Option ℕ) → at ≡ slice_get (chain_below hashes heads bucket n) 0 → past at ≤ n
past-le hashes heads bucket zero at is = rw is (omega arith)
past-le hashes heads bucket (suc n) at is =
    elim (eqb_tells (slice_index hashes n % heads) bucket) [
      | inl e ↦
          let i : at ≡ Some n = is ∙ ap (λ c. slice_get c 0) (below_here hashes heads bucket n e.1) in
          rw i (omega arith)
      | inr e ↦
          let r = past-le hashes heads bucket n at (is ∙ ap (λ c. slice_get c 0) (below_other hashes heads bucket n e.1)) in
          omega (arith, r)
    ]
