-- Offsets put into buckets: one is always free, and each offset finds one.
use Rattle.std.proofs.Common.{◌≡◌, ◌≢◌, ◌≤◌, ◌<◌, ◌+◌, ◌-◌, ◌%◌, ℕ, zero, suc, cond, List, [], ◌∷◌, ◌++◌, length, get_or, slice_get, set, take, drop, replicate, Option, None, Some, refl, sym, ap, ⊎_elim, ◌⊎◌, inl, inr, ◌∙◌, arith}
use Rattle.std.specs.Option.{option_map, option_or, unwrap_or}
use Rattle.std.proofs.lemmas.Bool.Decides.{eqb_tells}
use Rattle.std.proofs.lemmas.List.{get_or-drop, get_or-take, at_drop_all, at_drop_more, drop_more, length-drop, length-replicate, length-set, length-take-le, take-append-drop}
use Rattle.names_table.specs.Buckets.{bucket_count, first_free, free_from, name_hash, taken, with_names, with_offset}
use Rattle.std.proofs.lemmas.Option.{get_or_from_slice_get, slice_get_cases, slice_get_within}
use Rattle.names_table.specs.Names.{bytes_of}
use Rattle.names_table.proofs.Offsets.{length-le}

-- what a bucket at the front does to the count and to the search
record IsFree (b : ℕ) (buckets : List ℕ) : Type 0 where
  pub zero_is : b ≡ 0
  pub count : taken (b ∷ buckets) ≡ taken buckets
  pub first : (n : ℕ) → first_free n (b ∷ buckets) ≡ Some n

record IsTaken (b : ℕ) (buckets : List ℕ) : Type 0 where
  pub some : b ≢ 0
  pub count : taken (b ∷ buckets) ≡ 1 + taken buckets
  pub first : (n : ℕ) → first_free n (b ∷ buckets) ≡ first_free (n + 1) buckets

free_or_taken : (b : ℕ) (buckets : List ℕ) → IsFree b buckets ⊎ IsTaken b buckets
free_or_taken b buckets =
    ⊎_elim
    (λ t. inl (record {
      zero_is = t.1;
      count = ap (λ x. cond x (taken buckets) (1 + taken buckets)) t.0;
      first = λ n. ap (λ x. cond x (Some n) (first_free (n + 1) buckets)) t.0;
    }))
    (λ f. inr (record {
      some = f.1;
      count = ap (λ x. cond x (taken buckets) (1 + taken buckets)) f.0;
      first = λ n. ap (λ x. cond x (Some n) (first_free (n + 1) buckets)) f.0;
    })) (eqb_tells b 0)

-- where none is free, all are taken
pub all_taken : (n : ℕ) (buckets : List ℕ) → first_free n buckets ≡ None → taken buckets ≡ length buckets
all_taken n [] none = refl
all_taken n (b ∷ buckets) none =
    ⊎_elim (λ (f : IsFree b buckets). absurd (let e : Some n ≡ None = sym (f.first n) ∙ none in cc))
    (λ (t : IsTaken b buckets). t.count ∙ (let ih = all_taken (n + 1) buckets (sym (t.first n) ∙ none) in omega (arith, ih)))
    (free_or_taken b buckets)

-- the search with another number for the first bucket
pub first_free-add : (n m : ℕ) (buckets : List ℕ) → first_free (n + m) buckets ≡ option_map (λ k. n + k) (first_free m buckets)
first_free-add n m [] = refl
first_free-add n m (b ∷ buckets) =
    ⊎_elim (λ (f : IsFree b buckets). f.first (n + m) ∙ sym (ap (option_map (λ k. n + k)) (f.first m)))
    (λ (t : IsTaken b buckets).
    let e : n + m + 1 ≡ n + (m + 1) = omega arith in
    t.first (n + m) ∙ ap (λ k. first_free k buckets) e ∙ first_free-add n (m + 1) buckets ∙ sym (ap (option_map (λ k. n + k)) (t.first m))) (free_or_taken b buckets)

-- a bucket that is found
record IsFirst (n : ℕ) (buckets : List ℕ) (place : ℕ) : Type 0 where
  pub low : n ≤ place
  pub high : place < n + length buckets
  pub free : get_or buckets (place - n) 0 ≡ 0

found_first : (n : ℕ) (buckets : List ℕ) (place : ℕ) → first_free n buckets ≡ Some place → IsFirst n buckets place
found_first n [] place is = absurd cc
found_first n (b ∷ buckets) place is =
    ⊎_elim
    (λ (f : IsFree b buckets).
    let found : Some n ≡ Some place = sym (f.first n) ∙ is in
    let same : n ≡ place = cc in
    let none : place - n ≡ 0 = omega (arith, same) in
    let made : IsFirst n (b ∷ buckets) place = record { low = omega (arith, same); high = omega (arith, same); free = ap (λ k. get_or (b ∷ buckets) k 0) none ∙ f.zero_is } in
    made)
    (λ (t : IsTaken b buckets).
    let ih = found_first (n + 1) buckets place (sym (t.first n) ∙ is) in
    let later : place - n ≡ suc (place - (n + 1)) = omega (arith, ih.low) in
    let made : IsFirst n (b ∷ buckets) place = record { low = omega (arith, ih.low); high = omega (arith, ih.high); free = ap (λ k. get_or (b ∷ buckets) k 0) later ∙ ih.free } in
    made) (free_or_taken b buckets)

-- one step of the search, and its end
pub free_here : (buckets : List ℕ) (i : ℕ) → i < length buckets → get_or buckets i 0 ≡ 0 → first_free i (drop i buckets) ≡ Some i
free_here buckets i lt free =
    at_drop_more (first_free i) buckets i 0 lt
    ∙ ⊎_elim (λ (f : IsFree (get_or buckets i 0) (drop (i + 1) buckets)). f.first i) (λ (t : IsTaken (get_or buckets i 0) (drop (i + 1) buckets)). absurd (t.some free)) (free_or_taken (get_or buckets i 0) (drop (i + 1) buckets))

pub free_behind : (buckets : List ℕ) (i : ℕ) → i < length buckets → get_or buckets i 0 ≢ 0 → first_free (i + 1) (drop (i + 1) buckets) ≡ first_free i (drop i buckets)
free_behind buckets i lt some =
    sym
    (at_drop_more (first_free i) buckets i 0 lt
    ∙ ⊎_elim (λ (f : IsFree (get_or buckets i 0) (drop (i + 1) buckets)). absurd (some f.zero_is)) (λ (t : IsTaken (get_or buckets i 0) (drop (i + 1) buckets)). t.first i) (free_or_taken (get_or buckets i 0) (drop (i + 1) buckets)))

pub free_nowhere : (buckets : List ℕ) (i : ℕ) → length buckets ≤ i → first_free i (drop i buckets) ≡ None
free_nowhere buckets i le = at_drop_all (first_free i) buckets i le

-- no bucket before the first that is free is 0
pub some_before : (n : ℕ) (buckets : List ℕ) (place : ℕ) → first_free n buckets ≡ Some place → (k : ℕ) → n + k < place → get_or buckets k 0 ≢ 0
some_before n [] place is k lt = absurd cc
some_before n (b ∷ buckets) place is zero lt =
    ⊎_elim (λ (f : IsFree b buckets). absurd (let found : Some n ≡ Some place = sym (f.first n) ∙ is in let same : n ≡ place = cc in omega (arith, same, lt)))
    (λ (t : IsTaken b buckets). t.some) (free_or_taken b buckets)
some_before n (b ∷ buckets) place is (suc k) lt =
    ⊎_elim (λ (f : IsFree b buckets). absurd (let found : Some n ≡ Some place = sym (f.first n) ∙ is in let same : n ≡ place = cc in omega (arith, same, lt)))
    (λ (t : IsTaken b buckets). some_before (n + 1) buckets place (sym (t.first n) ∙ is) k (omega (arith, lt))) (free_or_taken b buckets)

pub some_all : (n : ℕ) (buckets : List ℕ) → first_free n buckets ≡ None → (k : ℕ) → k < length buckets → get_or buckets k 0 ≢ 0
some_all n [] none k lt = absurd (omega (arith, lt))
some_all n (b ∷ buckets) none zero lt =
    ⊎_elim (λ (f : IsFree b buckets). absurd (let e : Some n ≡ None = sym (f.first n) ∙ none in cc)) (λ (t : IsTaken b buckets). t.some) (free_or_taken b buckets)
some_all n (b ∷ buckets) none (suc k) lt =
    ⊎_elim (λ (f : IsFree b buckets). absurd (let e : Some n ≡ None = sym (f.first n) ∙ none in cc))
    (λ (t : IsTaken b buckets). some_all (n + 1) buckets (sym (t.first n) ∙ none) k (omega (arith, lt))) (free_or_taken b buckets)

taken-append : (xs ys : List ℕ) → taken (xs ++ ys) ≡ taken xs + taken ys
taken-append [] ys = omega arith
taken-append (x ∷ xs) ys =
    let ih = taken-append xs ys in
    ⊎_elim (λ t. let a = ap (λ b. cond b (taken (xs ++ ys)) (1 + taken (xs ++ ys))) t.0 in let b = ap (λ b. cond b (taken xs) (1 + taken xs)) t.0 in omega (arith, ih, a, b))
    (λ f. let a = ap (λ b. cond b (taken (xs ++ ys)) (1 + taken (xs ++ ys))) f.0 in let b = ap (λ b. cond b (taken xs) (1 + taken xs)) f.0 in omega (arith, ih, a, b))
    (eqb_tells x 0)

pub taken-replicate : (n : ℕ) → taken (replicate n 0) ≡ 0
taken-replicate zero = refl
taken-replicate (suc n) = taken-replicate n

-- an offset in a bucket that was free
taken-set : (buckets : List ℕ) (i x : ℕ) → i < length buckets → get_or buckets i 0 ≡ 0 → x ≢ 0 → taken (set buckets i x) ≡ taken buckets + 1
taken-set [] i x lt free some = absurd (omega (arith, lt))
taken-set (b ∷ buckets) zero x lt free some =
    let new : taken (x ∷ buckets) ≡ 1 + taken buckets = ⊎_elim (λ t. absurd (some t.1)) (λ f. ap (λ t. cond t (taken buckets) (1 + taken buckets)) f.0) (eqb_tells x 0) in
    let old : taken (b ∷ buckets) ≡ taken buckets = ap (λ y. taken (y ∷ buckets)) free in
    omega (arith, new, old)
taken-set (b ∷ buckets) (suc i) x lt free some =
    let ih = taken-set buckets i x (omega (arith, lt)) free some in
    ⊎_elim
    (λ t. let new = ap (λ y. cond y (taken (set buckets i x)) (1 + taken (set buckets i x))) t.0 in let old = ap (λ y. cond y (taken buckets) (1 + taken buckets)) t.0 in omega (arith, ih, new, old))
    (λ f. let new = ap (λ y. cond y (taken (set buckets i x)) (1 + taken (set buckets i x))) f.0 in let old = ap (λ y. cond y (taken buckets) (1 + taken buckets)) f.0 in omega (arith, ih, new, old))
    (eqb_tells b 0)

-- the bucket that is free from a bucket on, going round
pub record Found (start : ℕ) (buckets : List ℕ) : Type 0 where
  pub place : ℕ
  pub is : free_from start buckets ≡ Some place
  pub inside : place < length buckets
  pub free : get_or buckets place 0 ≡ 0

found_by : (start : ℕ) (buckets : List ℕ) (behind before : Option ℕ) → first_free start (drop start buckets) ≡ behind → first_free 0 (take start buckets) ≡ before → start ≤ length buckets
    → taken buckets < length buckets → Found start buckets
found_by start buckets (Some place) before is_behind is_before le some =
    let f = found_first start (drop start buckets) place is_behind in
    let at : start + (place - start) ≡ place = omega (arith, f.low) in
    record {
      place = place;
      is = ap (λ o. option_or o (first_free 0 (take start buckets))) is_behind;
      inside = omega (arith, f.high, length-drop start buckets, le);
      free = ap (λ k. get_or buckets k 0) (sym at) ∙ sym (get_or-drop start buckets (place - start) 0) ∙ f.free;
    }
found_by start buckets None (Some place) is_behind is_before le some =
    let f = found_first 0 (take start buckets) place is_before in
    let size = length-take-le start buckets le in
    let inside : place < start = omega (arith, f.high, size) in
    let at : place - 0 ≡ place = omega arith in
    record {
      place = place;
      is = λ j. option_or (is_behind j) (is_before j);
      inside = omega (arith, inside, le);
      free = sym (get_or-take start buckets place 0 inside) ∙ ap (λ k. get_or (take start buckets) k 0) (sym at) ∙ f.free;
    }
found_by start buckets None None is_behind is_before le some =
    let a = all_taken start (drop start buckets) is_behind in
    let b = all_taken 0 (take start buckets) is_before in
    let both = taken-append (take start buckets) (drop start buckets) in
    let same = ap taken (take-append-drop start buckets) in
    absurd (omega (arith, a, b, both, same, some, le, length-drop start buckets, length-take-le start buckets le))

-- one is found where not all are taken
pub found : (start : ℕ) (buckets : List ℕ) → start ≤ length buckets → taken buckets < length buckets → Found start buckets
found start buckets le some = found_by start buckets (first_free start (drop start buckets)) (first_free 0 (take start buckets)) refl refl le some

-- where it was found: behind the bucket, or going round
pub record FoundBehind (start : ℕ) (buckets : List ℕ) (place : ℕ) : Type 0 where
  pub low : start ≤ place
  pub run : (k : ℕ) → start ≤ k → k < place → get_or buckets k 0 ≢ 0

pub found_behind : (start : ℕ) (buckets : List ℕ) (f : Found start buckets) (place : ℕ) → first_free start (drop start buckets) ≡ Some place → FoundBehind start buckets f.place
found_behind start buckets f place is =
    let same : Some place ≡ Some f.place = sym (ap (λ o. option_or o (first_free 0 (take start buckets))) is) ∙ f.is in
    let at : place ≡ f.place = cc in
    let first = found_first start (drop start buckets) place is in
    record {
      low = omega (arith, first.low, at);
      run = λ k low lt e.
          let on : start + (k - start) ≡ k = omega (arith, low) in
          some_before start (drop start buckets) place is (k - start) (omega (arith, low, lt, at)) (get_or-drop start buckets (k - start) 0 ∙ ap (λ n. get_or buckets n 0) on ∙ e);
    }

pub record FoundBefore (start : ℕ) (buckets : List ℕ) (place : ℕ) : Type 0 where
  pub low : place < start
  pub behind : (k : ℕ) → start ≤ k → k < length buckets → get_or buckets k 0 ≢ 0
  pub run : (k : ℕ) → 0 ≤ k → k < place → get_or buckets k 0 ≢ 0

pub found_before : (start : ℕ) (buckets : List ℕ) (f : Found start buckets) → first_free start (drop start buckets) ≡ None → start ≤ length buckets → FoundBefore start buckets f.place
found_before start buckets f none le =
    let is : first_free 0 (take start buckets) ≡ Some f.place = sym (ap (λ o. option_or o (first_free 0 (take start buckets))) none) ∙ f.is in
    let first = found_first 0 (take start buckets) f.place is in
    let low : f.place < start = omega (arith, first.high, length-take-le start buckets le) in
    record {
      low = low;
      behind = λ k low lt e.
          let on : start + (k - start) ≡ k = omega (arith, low) in
          some_all start (drop start buckets) none (k - start) (omega (arith, low, lt, length-drop start buckets))
          (get_or-drop start buckets (k - start) 0 ∙ ap (λ n. get_or buckets n 0) on ∙ e);
      run = λ k zero_le lt e. some_before 0 (take start buckets) f.place is k (omega (arith, lt)) (get_or-take start buckets k 0 (omega (arith, lt, low)) ∙ e);
    }

-- buckets with an offset more
pub record Holds (hash offset : ℕ) (buckets : List ℕ) : Type 0 where
  pub size : length (with_offset hash offset buckets) ≡ length buckets
  pub count : taken (with_offset hash offset buckets) ≡ taken buckets + 1

pub holds : (hash offset : ℕ) (buckets : List ℕ) → offset ≢ 0 → taken buckets < length buckets → Holds hash offset buckets
holds hash offset buckets some room =
    let lt : hash % length buckets < length buckets = omega (arith, room) in
    let f = found (hash % length buckets) buckets (omega (arith, lt)) room in
    let is : with_offset hash offset buckets ≡ set buckets f.place offset = ap (λ o. unwrap_or (option_map (λ place. set buckets place offset) o) buckets) f.is in
    record {
      size = ap length is ∙ length-set buckets f.place offset;
      count = ap taken is ∙ taken-set buckets f.place offset f.inside f.free some;
    }

-- buckets with the offsets of names
pub record HoldAll (version offset : ℕ) (names : List (List ℕ)) (buckets : List ℕ) : Type 0 where
  pub size : length (with_names version offset names buckets) ≡ length buckets
  pub count : taken (with_names version offset names buckets) ≡ taken buckets + length names

pub hold_all : (version offset : ℕ) (names : List (List ℕ)) (buckets : List ℕ) → offset ≢ 0 → taken buckets + length names ≤ length buckets → HoldAll version offset names buckets
hold_all version offset [] buckets some room = record { size = refl; count = omega arith }
hold_all version offset (name ∷ names) buckets some room =
    let h = holds (name_hash version name) offset buckets some (omega (arith, room)) in
    let ih = hold_all version (offset + length name + 1) names (with_offset (name_hash version name) offset buckets) (λ e. omega (arith, e)) (omega (arith, h.size, h.count, room)) in
    record { size = ih.size ∙ h.size; count = omega (arith, ih.count, h.count) }

-- the buckets of names, of which there are more than names
pub all_held : (version : ℕ) (names : List (List ℕ)) → HoldAll version 1 names (replicate (bucket_count (length names)) 0)
all_held version names =
    let count = bucket_count (length names) in
    hold_all version 1 names (replicate count 0) (λ e. omega (arith, e)) (omega (arith, taken-replicate count, length-replicate {A = ℕ} count 0))

-- ---- names put one after another

-- how far names are put: those before a position, and the offset at which the next begins
pub record SoFar (version : ℕ) (names : List (List ℕ)) (first : List ℕ) (i offset : ℕ) (buckets : List ℕ) : Type 0 where
  pub same : with_names version offset (drop i names) buckets ≡ with_names version 1 names first
  pub behind : offset + bytes_of (drop i names) ≡ 1 + bytes_of names
  pub some : 0 < offset
  pub room : taken buckets + length names < length buckets + i

pub so_far_none : (version : ℕ) (names : List (List ℕ)) (first : List ℕ) → taken first + length names < length first → SoFar version names first 0 1 first
so_far_none version names first room = record { same = refl; behind = refl; some = omega arith; room = omega (arith, room) }

-- the next name
pub record Next (names : List (List ℕ)) (i : ℕ) (name : List ℕ) : Type 0 where
  pub inside : i < length names
  pub front : drop i names ≡ name ∷ drop (i + 1) names
  pub bytes : bytes_of (drop i names) ≡ length name + 1 + bytes_of (drop (i + 1) names)
  pub some : 1 ≤ bytes_of (drop (i + 1) names)
  pub few : length names + 1 ≤ bytes_of names

pub next : (names : List (List ℕ)) (i : ℕ) (name : List ℕ) → Some name ≡ slice_get names i → Next names i name
next names i name is =
    let inside = slice_get_within names i name (sym is) in
    let front : drop i names ≡ name ∷ drop (i + 1) names = drop_more names i [] inside ∙ ap (λ x. x ∷ drop (i + 1) names) (get_or_from_slice_get names i name [] (sym is)) in
    record { inside = inside; front = front; bytes = ap bytes_of front; some = omega (arith, length-le (drop (i + 1) names)); few = length-le names }

pub so_far_next : (version : ℕ) (names : List (List ℕ)) (first : List ℕ) (i offset : ℕ) (buckets name : List ℕ) → SoFar version names first i offset buckets → Some name ≡ slice_get names i
    → SoFar version names first (i + 1) (offset + (length name + 1)) (with_offset (name_hash version name) offset buckets)
so_far_next version names first i offset buckets name so is =
    let n = next names i name is in
    let h = holds (name_hash version name) offset buckets (λ e. omega (arith, e, so.some)) (omega (arith, so.room, n.inside)) in
    let new = with_offset (name_hash version name) offset buckets in
    let later = drop (i + 1) names in
    let sum : offset + (length name + 1) ≡ offset + length name + 1 = omega arith in
    record {
      same = ap (λ (k : ℕ). with_names version k later new) sum ∙ sym (ap (λ ns. with_names version offset ns buckets) n.front) ∙ so.same;
      behind = omega (arith, so.behind, n.bytes);
      some = omega arith;
      room = omega (arith, h.size, h.count, so.room);
    }

pub so_far_all : (version : ℕ) (names : List (List ℕ)) (first : List ℕ) (i offset : ℕ) (buckets : List ℕ) → SoFar version names first i offset buckets → None ≡ slice_get names i → buckets ≡ with_names version 1 names first
so_far_all version names first i offset buckets so none =
    ⊎_elim (λ has. absurd (let e : None ≡ Some has.0 = none ∙ has.2 in cc))
    (λ past. sym (at_drop_all (λ ns. with_names version offset ns buckets) names i past.0) ∙ so.same) (slice_get_cases names i).1
