-- Histories that begin one another, and whose calls stand in them.
use Rattle.std.proofs.Common.{◌≡◌, ◌≢◌, ℕ, ◌+◌, ◌≤◌, ◌<◌, Bool, true, false, ltb, List, [], ◌∷◌, ◌++◌, length, sym, refl, ap, ◌∙◌, eqb, eq-eqb, ne_eqb, cond, append_assoc, arith, length-append}
use Rattle.std.proofs.lemmas.List.{append-nil, append_cancel_left, nil_from_length}
use Rattle.std.proofs.lemmas.List.Elements.{filter-append}
use borrow.Author.Tests.{ltb-true, ltb-false}
use Rattle.turnstile.specs.declared.history.Entry.{Entry}
use Rattle.turnstile.specs.Histories.{Begins, caller, calls_by, longer}

pub begins_self : (a : List Entry) → Begins a a
begins_self a = record { rest = []; whole = sym (append-nil a) }

pub begins_on : (a b c : List Entry) → Begins a b → Begins b c → Begins a c
begins_on a b c p q = record { rest = p.rest ++ q.rest; whole = q.whole ∙ ap (λ (x : List Entry). x ++ q.rest) p.whole ∙ append_assoc a p.rest q.rest }

pub begins_more : (a b : List Entry) (e : Entry) → Begins a b → Begins a (b ++ e ∷ [])
begins_more a b e p = begins_on a b (b ++ e ∷ []) p (record { rest = e ∷ []; whole = refl })

pub snoc_same : (a : List Entry) (d e : Entry) → a ++ d ∷ [] ≡ a ++ e ∷ [] → d ≡ e
snoc_same a d e p = let q : d ∷ [] ≡ e ∷ [] = append_cancel_left a (d ∷ []) (e ∷ []) p in cc

-- of two beginnings of one list the shorter begins the longer
beginnings : (a b r s : List Entry) → a ++ r ≡ b ++ s → length a ≤ length b → Begins a b
beginnings [] b r s e l = record { rest = b; whole = refl }
beginnings (x ∷ xs) [] r s e l = absurd (omega arith)
beginnings (x ∷ xs) (y ∷ ys) r s e l =
    let same : x ≡ y = cc in
    let tails : xs ++ r ≡ ys ++ s = cc in
    let h : Begins xs ys = beginnings xs ys r s tails (omega arith) in
    record { rest = h.rest; whole = ap (λ (t : List Entry). y ∷ t) h.whole ∙ ap (λ (z : Entry). z ∷ (xs ++ h.rest)) (sym same) }

pub shorter : (a b log : List Entry) → Begins a log → Begins b log → length a ≤ length b → Begins a b
shorter a b log p q l = beginnings a b p.rest q.rest (sym p.whole ∙ q.whole) l

longer_cases : (P : List Entry → Type 0) (a b : List Entry) → (length a < length b → P b) → (length b ≤ length a → P a) → P (longer a b)
longer_cases P a b more less = go (ltb (length a) (length b)) refl where
  go : (t : Bool) → ltb (length a) (length b) ≡ t → P (cond t b a)
  go true e = more (ltb-true (length a) (length b) e)
  go false e = less (ltb-false (length a) (length b) e)

pub longer_is : (P : List Entry → Type 0) (a b : List Entry) → P a → P b → P (longer a b)
longer_is P a b p q = longer_cases P a b (λ _. q) (λ _. p)

pub left_begins : (a b log : List Entry) → Begins a log → Begins b log → Begins a (longer a b)
left_begins a b log p q = longer_cases (λ (c : List Entry). Begins a c) a b (λ l. shorter a b log p q (omega arith)) (λ _. begins_self a)

pub right_begins : (a b log : List Entry) → Begins a log → Begins b log → Begins b (longer a b)
right_begins a b log p q = longer_cases (λ (c : List Entry). Begins b c) a b (λ _. begins_self b) (λ l. shorter b a log q p l)

-- calls

pub own_call : (n : ℕ) (log : List Entry) (e : Entry) → caller e ≡ n → calls_by n (log ++ e ∷ []) ≡ calls_by n log ++ e ∷ []
own_call n log e same = filter-append (λ (d : Entry). eqb (caller d) n) log (e ∷ []) ∙ ap (λ (t : Bool). calls_by n log ++ cond t (e ∷ []) []) (eq-eqb (caller e) n same)

pub other_call : (n : ℕ) (log : List Entry) (e : Entry) → caller e ≢ n → calls_by n (log ++ e ∷ []) ≡ calls_by n log
other_call n log e other = filter-append (λ (d : Entry). eqb (caller d) n) log (e ∷ []) ∙ ap (λ (t : Bool). calls_by n log ++ cond t (e ∷ []) []) (ne_eqb (caller e) n other) ∙ append-nil (calls_by n log)

calls_on : (n : ℕ) (a b : List Entry) (p : Begins a b) → calls_by n b ≡ calls_by n a ++ calls_by n p.rest
calls_on n a b p = ap (calls_by n) p.whole ∙ filter-append (λ (d : Entry). eqb (caller d) n) a p.rest

-- what begins a history with no call of a number has none
pub none_before : (n : ℕ) (a b : List Entry) → Begins a b → calls_by n b ≡ [] → calls_by n a ≡ []
none_before n a b p z =
    let s : length (calls_by n b) ≡ length (calls_by n a) + length (calls_by n p.rest) = ap length (calls_on n a b p) ∙ length-append (calls_by n a) (calls_by n p.rest) in
    let t : length (calls_by n b) ≡ 0 = ap length z in
    nil_from_length (calls_by n a) (omega arith)

-- what lies between two histories with the same calls of a number has them too
pub between : (n : ℕ) (a b c : List Entry) → Begins a b → Begins b c → calls_by n a ≡ calls_by n c → calls_by n b ≡ calls_by n c
between n a b c p q same =
    let s : length (calls_by n b) ≡ length (calls_by n a) + length (calls_by n p.rest) = ap length (calls_on n a b p) ∙ length-append (calls_by n a) (calls_by n p.rest) in
    let t : length (calls_by n c) ≡ length (calls_by n b) + length (calls_by n q.rest) = ap length (calls_on n b c q) ∙ length-append (calls_by n b) (calls_by n q.rest) in
    let u : length (calls_by n a) ≡ length (calls_by n c) = ap length same in
    let z : calls_by n p.rest ≡ [] = nil_from_length (calls_by n p.rest) (omega arith) in
    calls_on n a b p ∙ ap (λ (r : List Entry). calls_by n a ++ r) z ∙ append-nil (calls_by n a) ∙ same
