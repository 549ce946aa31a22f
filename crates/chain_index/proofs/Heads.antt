-- How many heads there are for so many records, as the heads are doubled.
use Rattle.std.proofs.Common.{◌≡◌, ◌≤◌, ◌<◌, ◌+◌, ◌-◌, ◌*◌, ◌^◌, ◌⊎◌, inl, inr, ℕ, zero, suc, cond, ap, subst, refl, sym, ◌∙◌, arith}
use Rattle.std.proofs.lemmas.Bool.{le-leb, lt-leb}
use Rattle.std.proofs.lemmas.Bool.Decides.{leb_tells}
use Rattle.chain_index.specs.Chains.{doubled, heads_for}

-- the most heads that so many doublings lead to
abbrev pub top : ℕ → ℕ → ℕ
top zero heads = heads
top (suc often) heads = top often (2 * heads)

-- no doubling where there are enough
pub doubled-enough : (k h n : ℕ) → n ≤ h → doubled k h n ≡ h
doubled-enough zero h n p = refl
doubled-enough (suc k) h n p = ap (λ b. cond b h (doubled k (2 * h) n)) (le-leb n h p)

-- a doubling where there are too few
pub doubled-few : (k h n : ℕ) → h < n → doubled (suc k) h n ≡ doubled k (2 * h) n
doubled-few k h n p = ap (λ b. cond b h (doubled k (2 * h) n)) (lt-leb n h p)

pub top-least : (k h : ℕ) → h ≤ top k h
top-least zero h = omega arith
top-least (suc k) h = let ih = top-least k (2 * h) in omega (arith, ih)

pub top-fewer : (k h : ℕ) → top k h ≤ top (suc k) h
top-fewer zero h = omega arith
top-fewer (suc k) h = top-fewer k (2 * h)

pub doubled-least : (k h n : ℕ) → h ≤ doubled k h n
doubled-least zero h n = omega arith
doubled-least (suc k) h n =
    elim (leb_tells n h) [
      | inl e ↦ omega (arith, doubled-enough (suc k) h n e.1)
      | inr e ↦ omega (arith, doubled-few k h n e.1, doubled-least k (2 * h) n)
    ]

pub doubled-most : (k h n : ℕ) → doubled k h n ≤ top k h
doubled-most zero h n = omega arith
doubled-most (suc k) h n =
    elim (leb_tells n h) [
      | inl e ↦ omega (arith, doubled-enough (suc k) h n e.1, top-least (suc k) h)
      | inr e ↦ omega (arith, doubled-few k h n e.1, doubled-most k (2 * h) n)
    ]

doubled-mono : (k h m n : ℕ) → m ≤ n → doubled k h m ≤ doubled k h n
doubled-mono zero h m n p = omega arith
doubled-mono (suc k) h m n p =
    elim (leb_tells m h) [
      | inl e ↦ omega (arith, doubled-enough (suc k) h m e.1, doubled-least (suc k) h n)
      | inr e ↦
          let more : h < n = omega (arith, e.1) in
          omega (arith, doubled-few k h m e.1, doubled-few k h n more, doubled-mono k (2 * h) m n p)
    ]

doubled-grows : (k h n : ℕ) → 0 < h → doubled k h n ≤ n → doubled k h n < top k h → doubled k h (n + 1) ≡ 2 * doubled k h n
doubled-grows zero h n some full below = absurd (omega arith)
doubled-grows (suc k) h n some full below =
    elim (leb_tells n h) [
      | inl e ↦
          let now = doubled-enough (suc k) h n e.1 in
          let past : h < n + 1 = omega (arith, now) in
          let fits : n + 1 ≤ 2 * h = omega (arith, e.1) in
          omega (arith, now, doubled-few k h (n + 1) past, doubled-enough k (2 * h) (n + 1) fits)
      | inr e ↦
          let now = doubled-few k h n e.1 in
          let past : h < n + 1 = omega (arith, e.1) in
          let more : 0 < 2 * h = omega arith in
          omega (arith, now, doubled-few k h (n + 1) past, doubled-grows k (2 * h) n more (omega (arith, now)) (omega (arith, now)))
    ]

doubled-stays : (k h n : ℕ) → 0 < h → (n + 1 ≤ doubled k h n) ⊎ (top k h ≤ doubled k h n) → doubled k h (n + 1) ≡ doubled k h n
doubled-stays zero h n some either = refl
doubled-stays (suc k) h n some either =
    elim (leb_tells n h) [
      | inl e ↦
          let now = doubled-enough (suc k) h n e.1 in
          elim either [
            | inl fits ↦ let one : n + 1 ≤ h = omega (arith, now, fits) in omega (arith, now, doubled-enough (suc k) h (n + 1) one)
            | inr full ↦ absurd (omega (arith, now, full, top-least k (2 * h)))
          ]
      | inr e ↦
          let now = doubled-few k h n e.1 in
          let past : h < n + 1 = omega (arith, e.1) in
          let more : 0 < 2 * h = omega arith in
          let next : (n + 1 ≤ doubled k (2 * h) n) ⊎ (top k (2 * h) ≤ doubled k (2 * h) n) =
          elim either [ inl fits ↦ inl (omega (arith, now, fits)) | inr full ↦ inr (omega (arith, now, full)) ] in
          omega (arith, now, doubled-few k h (n + 1) past, doubled-stays k (2 * h) n more next)
    ]

pub heads_for-least : (n : ℕ) → 4096 ≤ heads_for n
unfolding heads_for
heads_for-least n = doubled-least 8 4096 n

pub heads_for-most : (n : ℕ) → heads_for n ≤ 2 ^ 20
unfolding heads_for
heads_for-most n = doubled-most 8 4096 n

pub heads_for-mono : (m n : ℕ) → m ≤ n → heads_for m ≤ heads_for n
unfolding heads_for
heads_for-mono m n p = doubled-mono 8 4096 m n p

pub heads_for-grows : (n : ℕ) → heads_for n ≤ n → heads_for n < 2 ^ 20 → heads_for (n + 1) ≡ 2 * heads_for n
unfolding heads_for
heads_for-grows n full below = doubled-grows 8 4096 n (omega arith) full below

pub heads_for-stays : (n : ℕ) → (n + 1 ≤ heads_for n) ⊎ (2 ^ 20 ≤ heads_for n) → heads_for (n + 1) ≡ heads_for n
unfolding heads_for
heads_for-stays n either = doubled-stays 8 4096 n (omega arith) either

-- What is left of the doublings leads to the same number, and to no more than the most.
pub record IsOnTheWay (often heads records : ℕ) : Type 0 where
  pub same : doubled often heads records ≡ heads_for records
  pub most : top often heads ≤ 2 ^ 20

pub way_begins : (n : ℕ) → IsOnTheWay 8 4096 n
unfolding heads_for
way_begins n = record { same = refl; most = omega arith }

pub way-fits : (done h n : ℕ) → done < 8 → IsOnTheWay (8 - done) h n → h * 2 ≤ 2 ^ 20
way-fits done h n less way =
    let e : 8 - done ≡ suc (8 - (done + 1)) = omega arith in
    let most : top (8 - (done + 1)) (2 * h) ≤ 2 ^ 20 = subst (λ (o : ℕ). top o h ≤ 2 ^ 20) e way.most in
    omega (arith, most, top-least (8 - (done + 1)) (2 * h))

-- a round that doubles
pub way_on : (done h more n : ℕ) → done < 8 → h < n → more ≡ h * 2 → IsOnTheWay (8 - done) h n → IsOnTheWay (8 - (done + 1)) more n
way_on done h more n less few twice way =
    let e : 8 - done ≡ suc (8 - (done + 1)) = omega arith in
    let i : more ≡ 2 * h = omega arith in
    rw i record {
      same = sym (doubled-few (8 - (done + 1)) h n few) ∙ ap (λ o. doubled o h n) (sym e) ∙ way.same;
      most = subst (λ (o : ℕ). top o h ≤ 2 ^ 20) e way.most;
    }

-- a round that does not
pub way_by : (done h same n : ℕ) → done < 8 → n ≤ h → same ≡ h → IsOnTheWay (8 - done) h n → IsOnTheWay (8 - (done + 1)) same n
way_by done h same n less enough i way =
    let e : 8 - done ≡ suc (8 - (done + 1)) = omega arith in
    let most : top (suc (8 - (done + 1))) h ≤ 2 ^ 20 = subst (λ (o : ℕ). top o h ≤ 2 ^ 20) e way.most in
    rw i record {
      same = doubled-enough (8 - (done + 1)) h n enough ∙ sym (doubled-enough (8 - done) h n enough) ∙ way.same;
      most = omega (arith, most, top-fewer (8 - (done + 1)) h);
    }
