-- Records that are cut out of bytes at their ends.
use Rattle.std.proofs.Common.{◌≡◌, ◌≤◌, ◌<◌, ◌+◌, ◌-◌, ◌^◌, ℕ, zero, suc, List, [], ◌∷◌, ◌++◌, Some, length, get_or, take, drop, refl, sym, ap, ◌∙◌, arith, length-append}
use Rattle.std.proofs.lemmas.List.{take-append-drop, drop-append-le, take-append-le, drop_at, drop_all, drop-drop, length-drop, take_all}
use Rattle.std.specs.List.{slice_get}
use Rattle.srv_edge.specs.Records.{joined, cut_at, Rises, AreEnds, start_of}

-- ends that rise from a start end at or behind it
pub rises-le : (start : ℕ) (ends : List ℕ) (last : ℕ) → Rises start ends last → start ≤ last
rises-le start [] last r = omega (arith, r)
rises-le start (end ∷ ends) last r = let h = rises-le end ends last r.1 in omega (arith, r.0, h)

pub length-cut_at : (bytes : List ℕ) (start : ℕ) (ends : List ℕ) → length (cut_at bytes start ends) ≡ length ends
length-cut_at bytes start [] = refl
length-cut_at bytes start (end ∷ ends) = ap suc (length-cut_at bytes end ends)

-- what stands before a place and what stands behind it
split_drop : (bytes : List ℕ) (start end : ℕ) → start ≤ end → end ≤ length bytes → take (end - start) (drop start bytes) ++ drop end bytes ≡ drop start bytes
split_drop bytes start end le fits =
    let e : start + (end - start) ≡ end = omega arith in
    let back : drop (end - start) (drop start bytes) ≡ drop end bytes = drop-drop (end - start) start bytes ∙ ap (λ n. drop n bytes) e in
    ap (λ xs. take (end - start) (drop start bytes) ++ xs) (sym back) ∙ take-append-drop (end - start) (drop start bytes)

pub joined-cut_at : (bytes : List ℕ) (start : ℕ) (ends : List ℕ) → Rises start ends (length bytes) → joined (cut_at bytes start ends) ≡ drop start bytes
joined-cut_at bytes start [] r = sym (drop_all start bytes (omega (arith, r)))
joined-cut_at bytes start (end ∷ ends) r =
    ap (λ xs. take (end - start) (drop start bytes) ++ xs) (joined-cut_at bytes end ends r.1)
    ∙ split_drop bytes start end r.0 (rises-le end ends (length bytes) r.1)

pub rises-push : (start : ℕ) (ends : List ℕ) (last next : ℕ) → Rises start ends last → last ≤ next → Rises start (ends ++ next ∷ []) next
rises-push start [] last next r le = (omega (arith, r, le), refl)
rises-push start (end ∷ ends) last next r le = (r.0, rises-push end ends last next r.1 le)

pub cut_at-push : (bytes : List ℕ) (start : ℕ) (ends more : List ℕ) → Rises start ends (length bytes)
    → cut_at (bytes ++ more) start (ends ++ (length (bytes ++ more)) ∷ []) ≡ cut_at bytes start ends ++ more ∷ []
cut_at-push bytes start [] more r =
    let d : drop start (bytes ++ more) ≡ more = drop_at bytes more start (sym r) in
    let n : length (bytes ++ more) - start ≡ length more = omega (arith, r, length-append bytes more) in
    ap (λ xs. xs ∷ []) (ap (λ k. take k (drop start (bytes ++ more))) n ∙ ap (take (length more)) d ∙ take_all (length more) more (omega arith))
cut_at-push bytes start (end ∷ ends) more r =
    let le = rises-le end ends (length bytes) r.1 in
    let d : drop start (bytes ++ more) ≡ drop start bytes ++ more = drop-append-le start bytes more (omega (arith, r.0, le)) in
    let t : take (end - start) (drop start (bytes ++ more)) ≡ take (end - start) (drop start bytes) =
    ap (take (end - start)) d ∙ take-append-le (end - start) (drop start bytes) more (omega (arith, length-drop start bytes, le)) in
    ap (λ x. x ∷ cut_at (bytes ++ more) end (ends ++ (length (bytes ++ more)) ∷ [])) t
    ∙ ap (λ xs. take (end - start) (drop start bytes) ∷ xs) (cut_at-push bytes end ends more r.1)

-- where the record at a position lies
pub record Lies (bytes : List ℕ) (start : ℕ) (ends : List ℕ) (i : ℕ) : Type 0 where
  pub order : start_of start ends i ≤ get_or ends i 0
  pub within : get_or ends i 0 ≤ length bytes
  pub cut : slice_get (cut_at bytes start ends) i ≡ Some (take (get_or ends i 0 - start_of start ends i) (drop (start_of start ends i) bytes))

pub lies : (bytes : List ℕ) (start : ℕ) (ends : List ℕ) (i : ℕ) → Rises start ends (length bytes) → i < length ends → Lies bytes start ends i
lies bytes start [] i r lt = absurd (omega (arith, lt))
lies bytes start (end ∷ ends) zero r lt = record { order = r.0; within = rises-le end ends (length bytes) r.1; cut = refl }
lies bytes start (end ∷ ends) (suc i) r lt =
    let h = lies bytes end ends i r.1 (omega (arith, lt)) in record { order = h.order; within = h.within; cut = h.cut }

start_of-suc : (start : ℕ) (ends : List ℕ) (i : ℕ) → i < length ends → start_of start ends (suc i) ≡ get_or ends i 0
start_of-suc start [] i lt = absurd (omega (arith, lt))
start_of-suc start (end ∷ ends) zero lt = refl
start_of-suc start (end ∷ ends) (suc i) lt = start_of-suc end ends i (omega (arith, lt))

pub start_of-get_or : (start : ℕ) (ends : List ℕ) (i : ℕ) → 0 < i → i ≤ length ends → start_of start ends i ≡ get_or ends (i - 1) 0
start_of-get_or start ends zero pos le = absurd (omega arith)
start_of-get_or start ends (suc i) pos le =
    let back : i ≡ suc i - 1 = omega arith in start_of-suc start ends i (omega (arith, le)) ∙ ap (λ k. get_or ends k 0) back

-- a record more
pub ends-push : (bytes ends more : List ℕ) → AreEnds bytes ends → length ends + 1 < 2 ^ 32 → length bytes + length more < 2 ^ 32
    → AreEnds (bytes ++ more) (ends ++ (length (bytes ++ more)) ∷ [])
ends-push bytes ends more a few short = record {
  rises = rises-push 0 ends (length bytes) (length (bytes ++ more)) a.rises (omega (arith, length-append bytes more));
  few = omega (arith, few, length-append ends ((length (bytes ++ more)) ∷ []));
  short = omega (arith, short, length-append bytes more);
}
