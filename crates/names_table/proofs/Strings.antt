-- Names in one run of bytes.
use Rattle.std.proofs.Common.{◌≡◌, ◌≢◌, ◌≤◌, ◌<◌, ◌+◌, ◌-◌, ◌^◌, ℕ, cond, eq-eqb, zero, suc, List, [], ◌∷◌, ◌++◌, length, get_or, slice_get, take, drop, Some, None, Ok, Err, All, refl, sym, ap, subst, ⊎_elim, ◌⊎◌, inl, inr, ◌∙◌, arith, length-append, append_assoc}
use Rattle.std.proofs.lemmas.Bool.Decides.{eqb_tells}
use Rattle.std.proofs.lemmas.List.Elements.{All-push, recursion_from_All}
use Rattle.std.proofs.lemmas.List.Sorted.{searched}
use Rattle.std.proofs.lemmas.Option.{slice_get-get_or}
use Rattle.std.specs.List.{AllByRecursion}
use Rattle.std.specs.List.Sorted.{IsBinarySearchResult}
use Rattle.std.specs.Ordering.{nat_cmp}
use Rattle.names_table.specs.Names.{IsName, bytes_of, name_from}
use Rattle.names_table.specs.Strings.{AreStrings, EndsAt, names_cut, starts_from, strings_of, with_byte}
use Rattle.names_table.proofs.Offsets.{bytes_of-push}

pub length-strings : (names : List (List ℕ)) → length (strings_of names) + 1 ≡ bytes_of names
length-strings [] = refl
length-strings (x ∷ names) = omega (arith, length-append x (0 ∷ strings_of names), length-strings names)

pub length-starts : (start : ℕ) (names : List (List ℕ)) → length (starts_from start names) ≡ length names
length-starts start [] = refl
length-starts start (x ∷ names) = ap suc (length-starts (start + length x + 1) names)

-- a name more
pub strings-push : (names : List (List ℕ)) (name : List ℕ) → strings_of (names ++ name ∷ []) ≡ (strings_of names ++ name) ++ 0 ∷ []
strings-push [] name = refl
strings-push (x ∷ names) name =
    ap (λ s. x ++ 0 ∷ s) (strings-push names name ∙ append_assoc (strings_of names) name (0 ∷ []))
    ∙ sym (append_assoc (x ++ 0 ∷ strings_of names) name (0 ∷ []) ∙ append_assoc x (0 ∷ strings_of names) (name ++ 0 ∷ []))

pub starts-push : (start : ℕ) (names : List (List ℕ)) (name : List ℕ) (next : ℕ) → next + 1 ≡ start + bytes_of names → starts_from start (names ++ name ∷ []) ≡ starts_from start names ++ next ∷ []
starts-push start [] name next behind = let e : start ≡ next = omega (arith, behind) in ap (λ n. n ∷ []) e
starts-push start (x ∷ names) name next behind = ap (λ s. start ∷ s) (starts-push (start + length x + 1) names name next (omega (arith, behind)))

-- the bytes before a NUL are a name
cut_first : (x rest : List ℕ) → AllByRecursion (λ b. b ≢ 0) x → names_cut (x ++ 0 ∷ rest) ≡ x ∷ names_cut rest
cut_first [] rest none = refl
cut_first (b ∷ x) rest none =
    ⊎_elim (λ t. absurd (none.0 t.1)) (λ f. ap (λ t. cond t ([] ∷ names_cut (x ++ 0 ∷ rest)) (with_byte b (names_cut (x ++ 0 ∷ rest)))) f.0) (eqb_tells b 0)
    ∙ ap (with_byte b) (cut_first x rest none.1)

cut_all : (names : List (List ℕ)) → AllByRecursion IsName names → names_cut (strings_of names) ≡ names
cut_all [] are = refl
cut_all (x ∷ names) are =
    cut_first x (strings_of names) (recursion_from_All (λ b. b ≢ 0) x are.0.no_nul) ∙ ap (λ ns. x ∷ ns) (cut_all names are.1)

-- names are cut from their strings
pub cut : (names : List (List ℕ)) → All IsName names → names_cut (strings_of names) ≡ names
cut names are = cut_all names (recursion_from_All IsName names are)

-- strings of a name more
pub record Pushes (bytes starts name : List ℕ) (start : ℕ) : Type 0 where
  pub names : names_cut ((bytes ++ name) ++ 0 ∷ []) ≡ names_cut bytes ++ name ∷ []
  pub are : AreStrings ((bytes ++ name) ++ 0 ∷ []) (starts ++ start ∷ [])

pub pushes : (bytes starts name : List ℕ) (start : ℕ) → AreStrings bytes starts → IsName name → start ≡ bytes_of (names_cut bytes)
    → bytes_of (names_cut bytes) + length name + 1 < 2 ^ 32 → Pushes bytes starts name start
pushes bytes starts name start a is begins room =
    let names = names_cut bytes in
    let all : All IsName (names ++ name ∷ []) = All-push IsName names name a.names is in
    let joined : (bytes ++ name) ++ 0 ∷ [] ≡ strings_of (names ++ name ∷ []) = ap (λ b. (b ++ name) ++ 0 ∷ []) a.joined ∙ sym (strings-push names name) in
    let same : names_cut ((bytes ++ name) ++ 0 ∷ []) ≡ names ++ name ∷ [] = ap names_cut joined ∙ cut (names ++ name ∷ []) all in
    record {
      names = same;
      are = record {
        names = subst (All IsName) (sym same) all;
        joined = joined ∙ ap strings_of (sym same);
        begin = ap (λ s. s ++ start ∷ []) a.begin ∙ sym (starts-push 1 names name start (omega (arith, begins))) ∙ ap (starts_from 1) (sym same);
        short = omega (arith, ap bytes_of same, bytes_of-push names name, room);
      };
    }

-- how many bytes and starts there are
pub length-bytes : (bytes starts : List ℕ) → AreStrings bytes starts → length bytes + 1 ≡ bytes_of (names_cut bytes)
length-bytes bytes starts a = ap (λ b. length b + 1) a.joined ∙ length-strings (names_cut bytes)

pub length-begin : (bytes starts : List ℕ) → AreStrings bytes starts → length starts ≡ length (names_cut bytes)
length-begin bytes starts a = ap length a.begin ∙ length-starts 1 (names_cut bytes)

-- where the name at a place lies, if the first of all begins at `start`
pub record Lies (start : ℕ) (names : List (List ℕ)) (i : ℕ) : Type 0 where
  pub begins : start ≤ get_or (starts_from start names) i 0
  pub found : name_from start names (get_or (starts_from start names) i 0) ≡ Some (get_or names i [])
  pub text : take (length (get_or names i [])) (drop (get_or (starts_from start names) i 0 - start) (strings_of names)) ≡ get_or names i []
  pub last : i + 1 ≡ length names → start + length (strings_of names) ≡ get_or (starts_from start names) i 0 + length (get_or names i []) + 1
  pub next : i + 1 < length names → get_or (starts_from start names) (i + 1) 0 ≡ get_or (starts_from start names) i 0 + length (get_or names i []) + 1
  pub within : get_or (starts_from start names) i 0 + length (get_or names i []) + 1 ≤ start + length (strings_of names)

here : (start : ℕ) (x : List ℕ) (names : List (List ℕ)) (offset : ℕ) → start ≡ offset → name_from start (x ∷ names) offset ≡ Some x
here start x names offset same = ap (λ b. cond b (Some x) (name_from (start + length x + 1) names offset)) (eq-eqb start offset same)

behind : (start : ℕ) (x : List ℕ) (names : List (List ℕ)) (offset : ℕ) → start ≢ offset → name_from start (x ∷ names) offset ≡ name_from (start + length x + 1) names offset
behind start x names offset differ =
    ap (λ b. cond b (Some x) (name_from (start + length x + 1) names offset)) (⊎_elim (λ t. absurd (differ t.1)) (λ f. f.0) (eqb_tells start offset))

-- behind a name and its NUL
drop_string : (x rest : List ℕ) (n k : ℕ) → n ≡ length x + 1 + k → drop n (x ++ 0 ∷ rest) ≡ drop k rest
drop_string [] rest zero k e = absurd (omega (arith, e))
drop_string [] rest (suc n) k e = let s : n ≡ k = omega (arith, e) in ap (λ j. drop j rest) s
drop_string (b ∷ x) rest zero k e = absurd (omega (arith, e))
drop_string (b ∷ x) rest (suc n) k e = drop_string x rest n k (omega (arith, e))

take_string : (x rest : List ℕ) → take (length x) (x ++ rest) ≡ x
take_string [] rest = refl
take_string (b ∷ x) rest = ap (λ t. b ∷ t) (take_string x rest)

drop_none : (n : ℕ) (xs : List ℕ) → drop (n - n) xs ≡ xs
drop_none n xs = let z : n - n ≡ 0 = omega arith in ap (λ k. drop k xs) z

next_first : (start : ℕ) (x : List ℕ) (names : List (List ℕ)) → 0 + 1 < length (x ∷ names) → get_or (starts_from start (x ∷ names)) (0 + 1) 0 ≡ start + length x + 1
next_first start x [] lt = absurd (omega (arith, lt))
next_first start x (y ∷ names) lt = refl

last_first : (start : ℕ) (x : List ℕ) (names : List (List ℕ)) → 0 + 1 ≡ length (x ∷ names) → start + length (strings_of (x ∷ names)) ≡ start + length x + 1
last_first start x [] e = omega (arith, length-append x (0 ∷ []))
last_first start x (y ∷ names) e = absurd (omega (arith, e))

pub lies : (start : ℕ) (names : List (List ℕ)) (i : ℕ) → i < length names → Lies start names i
lies start [] i lt = absurd (omega (arith, lt))
lies start (x ∷ names) zero lt = record {
  begins = omega arith;
  found = here start x names start refl;
  text = ap (take (length x)) (drop_none start (x ++ 0 ∷ strings_of names)) ∙ take_string x (0 ∷ strings_of names);
  last = last_first start x names;
  next = next_first start x names;
  within = omega (arith, length-append x (0 ∷ strings_of names));
}
lies start (x ∷ names) (suc i) lt =
    let after = start + length x + 1 in
    let h = lies after names i (omega (arith, lt)) in
    let at = get_or (starts_from after names) i 0 in
    let size = length-append x (0 ∷ strings_of names) in
    let one : suc i + 1 ≡ suc (i + 1) = omega arith in
    record {
      begins = omega (arith, h.begins);
      found = behind start x names at (λ e. omega (arith, e, h.begins)) ∙ h.found;
      text = ap (take (length (get_or names i []))) (drop_string x (strings_of names) (at - start) (at - after) (omega (arith, h.begins))) ∙ h.text;
      last = λ e. let l = h.last (omega (arith, e)) in omega (arith, l, size);
      next = λ e. ap (λ k. get_or (starts_from start (x ∷ names)) k 0) one ∙ h.next (omega (arith, e));
      within = omega (arith, h.within, size);
    }

-- the starts rise
pub rises : (start : ℕ) (names : List (List ℕ)) (i j : ℕ) → i ≤ j → j < length names → get_or (starts_from start names) i 0 ≤ get_or (starts_from start names) j 0
rises start [] i j le lt = absurd (omega (arith, lt))
rises start (x ∷ names) zero j le lt = (lies start (x ∷ names) j lt).begins
rises start (x ∷ names) (suc i) zero le lt = absurd (omega (arith, le))
rises start (x ∷ names) (suc i) (suc j) le lt = rises (start + length x + 1) names i j (omega (arith, le)) (omega (arith, lt))

-- no name begins where no start is
pub absent : (start : ℕ) (names : List (List ℕ)) (offset : ℕ) → ((i : ℕ) → i < length names → get_or (starts_from start names) i 0 ≢ offset) → name_from start names offset ≡ None
absent start [] offset none = refl
absent start (x ∷ names) offset none =
    behind start x names offset (none 0 (omega arith))
    ∙ absent (start + length x + 1) names offset (λ i lt. none (suc i) (omega (arith, lt)))

-- where the name at a place begins and ends among the bytes
pub record Place (bytes starts : List ℕ) (i : ℕ) : Type 0 where
  pub begins : 1 ≤ get_or starts i 0
  pub found : name_from 1 (names_cut bytes) (get_or starts i 0) ≡ Some (get_or (names_cut bytes) i [])
  pub text : take (length (get_or (names_cut bytes) i [])) (drop (get_or starts i 0 - 1) bytes) ≡ get_or (names_cut bytes) i []
  pub last : i + 1 ≡ length starts → 1 + length bytes ≡ get_or starts i 0 + length (get_or (names_cut bytes) i []) + 1
  pub next : i + 1 < length starts → get_or starts (i + 1) 0 ≡ get_or starts i 0 + length (get_or (names_cut bytes) i []) + 1
  pub within : get_or starts i 0 + length (get_or (names_cut bytes) i []) + 1 ≤ 1 + length bytes

pub place : (bytes starts : List ℕ) (i : ℕ) → AreStrings bytes starts → i < length starts → Place bytes starts i
place bytes starts i a lt =
    let names = names_cut bytes in
    let count = length-begin bytes starts a in
    let h = lies 1 names i (omega (arith, lt, count)) in
    let at : get_or (starts_from 1 names) i 0 ≡ get_or starts i 0 = ap (λ s. get_or s i 0) (sym a.begin) in
    let after : get_or (starts_from 1 names) (i + 1) 0 ≡ get_or starts (i + 1) 0 = ap (λ s. get_or s (i + 1) 0) (sym a.begin) in
    let size : length (strings_of names) ≡ length bytes = ap length (sym a.joined) in
    record {
      begins = omega (arith, h.begins, at);
      found = ap (name_from 1 names) (sym at) ∙ h.found;
      text = ap (λ n. take (length (get_or names i [])) (drop (n - 1) bytes)) (sym at) ∙ ap (λ b. take (length (get_or names i [])) (drop (get_or (starts_from 1 names) i 0 - 1) b)) a.joined ∙ h.text;
      last = λ e. let l = h.last (omega (arith, e, count)) in omega (arith, l, at, size);
      next = λ e. let n = h.next (omega (arith, e, count)) in omega (arith, n, at, after);
      within = omega (arith, h.within, at, size);
    }

starts-rise : (bytes starts : List ℕ) → AreStrings bytes starts → (i j : ℕ) → i ≤ j → j < length starts → get_or starts i 0 ≤ get_or starts j 0
starts-rise bytes starts a =
    let names = names_cut bytes in
    λ i j le lt.
    let h = rises 1 names i j le (omega (arith, lt, length-begin bytes starts a)) in
    omega (arith, h, ap (λ s. get_or s i 0) a.begin, ap (λ s. get_or s j 0) a.begin)

pub before_or_behind : (k i : ℕ) → (k < i) ⊎ (i ≤ k)
before_or_behind k zero = inr (omega arith)
before_or_behind zero (suc i) = inl (omega arith)
before_or_behind (suc k) (suc i) = ⊎_elim (λ l. inl (omega (arith, l))) (λ l. inr (omega (arith, l))) (before_or_behind k i)

-- a search of the starts finds the name that begins at an offset
pub searches : (bytes starts : List ℕ) (offset : ℕ) (i : ℕ) → AreStrings bytes starts → IsBinarySearchResult (λ y. nat_cmp y offset) starts (Err i) → None ≡ name_from 1 (names_cut bytes) offset
searches bytes starts offset i a result =
    let names = names_cut bytes in
    let m = searched starts offset (Err i) result (starts-rise bytes starts a) in
    let at : (k : ℕ) → get_or (starts_from 1 names) k 0 ≡ get_or starts k 0 = λ k. ap (λ s. get_or s k 0) (sym a.begin) in
    sym (absent 1 names offset (λ k lt e. ⊎_elim (λ l. let b = m.1 k l in omega (arith, b, at k, e)) (λ l. let b = m.2 k l (omega (arith, lt, length-begin bytes starts a)) in omega (arith, b, at k, e)) (before_or_behind k i)))

-- the bytes from where the name at a place begins to where it ends
pub named : (bytes starts : List ℕ) (i end : ℕ) → AreStrings bytes starts → i < length starts → EndsAt bytes starts i end
    → Some (take (end - (get_or starts i 0 - 1)) (drop (get_or starts i 0 - 1) bytes)) ≡ slice_get (names_cut bytes) i
named bytes starts i end a lt ends =
    let names = names_cut bytes in
    let p = place bytes starts i a lt in
    let size : end - (get_or starts i 0 - 1) ≡ length (get_or names i []) = omega (arith, ends, p.begins) in
    ap (λ n. Some (take n (drop (get_or starts i 0 - 1) bytes))) size ∙ ap (λ x. Some x) p.text
    ∙ sym (slice_get-get_or names i [] (omega (arith, lt, length-begin bytes starts a)))

pub finds : (bytes starts : List ℕ) (offset : ℕ) (i : ℕ) → AreStrings bytes starts → IsBinarySearchResult (λ y. nat_cmp y offset) starts (Ok i) → slice_get (names_cut bytes) i ≡ name_from 1 (names_cut bytes) offset
finds bytes starts offset i a result =
    let m = searched starts offset (Ok i) result (starts-rise bytes starts a) in
    let p = place bytes starts i a m.0 in
    slice_get-get_or (names_cut bytes) i [] (omega (arith, m.0, length-begin bytes starts a)) ∙ sym p.found ∙ ap (name_from 1 (names_cut bytes)) m.1

-- where the name at a place ends
pub record Ends (bytes starts : List ℕ) (i end : ℕ) : Type 0 where
  pub order : get_or starts i 0 ≤ end + 1
  pub within : end ≤ length bytes
  pub text : EndsAt bytes starts i end

pub ends_before : (bytes starts : List ℕ) (i next : ℕ) → AreStrings bytes starts → i < length starts → i + 1 < length starts → next ≡ get_or starts (i + 1) 0 → (2 ≤ next) × Ends bytes starts i (next - 2)
ends_before bytes starts i next a lt more e =
    let p = place bytes starts i a lt in
    let n = p.next more in
    (omega (arith, n, e, p.begins), record { order = omega (arith, n, e, p.begins); within = omega (arith, n, e, p.within); text = omega (arith, n, e, p.begins) })

pub ends_last : (bytes starts : List ℕ) (i : ℕ) → AreStrings bytes starts → i < length starts → length starts ≤ i + 1 → (1 ≤ length bytes) × Ends bytes starts i (length bytes - 1)
ends_last bytes starts i a lt e =
    let p = place bytes starts i a lt in
    let l = p.last (omega (arith, e, lt)) in
    (omega (arith, l, p.begins), record { order = omega (arith, l, p.begins); within = omega (arith, l); text = omega (arith, l, p.begins) })
