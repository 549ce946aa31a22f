-- Taken buckets that lead to the first free one.
use Rattle.std.proofs.Common.{◌≡◌, ◌≤◌, ◌<◌, ◌+◌, ◌-◌, ℕ, zero, suc, List, length, get_or, set, take, drop, replicate, None, Some, refl, sym, ap, subst, ◌∙◌, ⊎_elim, arith}
use Rattle.std.specs.Option.{option_or}
use Rattle.std.proofs.lemmas.Bool.Decides.{eqb_tells, leb_tells}
use Rattle.std.proofs.lemmas.List.{get_or-set_other, get_or-set_same, get_or-take, length-set, length-take-le}
use Rattle.names_table.specs.Buckets.{AreTaken, IsFirstFree, Leads, LeadsOn, first_free, free_from, taken}
use Rattle.names_table.proofs.FreeBuckets.{all_taken, free_behind, free_here, free_nowhere}

-- taken buckets, and then more
pub taken_on : (buckets : List ℕ) (a b c : ℕ) → AreTaken buckets a b → AreTaken buckets b c → AreTaken buckets a c
taken_on buckets a b c one two = λ k from to. ⊎_elim
    (λ ge. two k ge.1 to)
    (λ lt. one k from lt.1)
    (leb_tells b k)

-- no bucket leads past a free one
pub leads_before : (buckets : List ℕ) (from to place : ℕ) → LeadsOn buckets from to → from ≤ place → place ≤ length buckets → (place < length buckets → get_or buckets place 0 ≡ 0) → to ≤ place
leads_before buckets from to place on le inside free = ⊎_elim
    (λ le'. le'.1)
    (λ gt. absurd (on.taken place le gt.1 (free (omega (arith, gt.1, on.inside)))))
    (leb_tells to place)

-- a bucket that leads elsewhere
pub leads_set : (buckets next : List ℕ) (at to : ℕ) → Leads buckets next → at < length buckets → LeadsOn buckets at to → Leads buckets (set next at to)
leads_set buckets next at to leads lt on = record {
  count = length-set next at to ∙ leads.count;
  each = λ i less some. ⊎_elim
      (λ same.
      let read : get_or (set next at to) i 0 ≡ to = ap (λ k. get_or (set next at to) k 0) same.1 ∙ get_or-set_same next at to 0 (omega (arith, lt, leads.count)) in
      subst (λ j. LeadsOn buckets i j) (sym read) (subst (λ k. LeadsOn buckets k to) (sym same.1) on))
      (λ other. subst (λ j. LeadsOn buckets i j) (sym (get_or-set_other next at i to 0 other.1)) (leads.each i less some))
      (eqb_tells i at);
}

-- taken buckets stay so where another is taken
taken_set : (buckets : List ℕ) (place offset from to : ℕ) → place < length buckets → 0 < offset → AreTaken buckets from to → AreTaken (set buckets place offset) from to
taken_set buckets place offset from to lt some are = λ k ge less none. ⊎_elim
    (λ same.
    let read : get_or (set buckets place offset) k 0 ≡ offset = ap (λ j. get_or (set buckets place offset) j 0) same.1 ∙ get_or-set_same buckets place offset 0 lt in
    omega (arith, some, none, read))
    (λ other. are k ge less (sym (get_or-set_other buckets place k offset 0 other.1) ∙ none))
    (eqb_tells k place)

-- a bucket is taken, and leads to the next
pub leads_put : (buckets next : List ℕ) (place offset : ℕ) → Leads buckets next → place < length buckets → 0 < offset → Leads (set buckets place offset) (set next place (place + 1))
leads_put buckets next place offset leads lt some =
    let new = set buckets place offset in
    let count : length new ≡ length buckets = length-set buckets place offset in
    record {
      count = length-set next place (place + 1) ∙ leads.count ∙ sym count;
      each = λ i less is. ⊎_elim
          (λ same.
          let read : get_or (set next place (place + 1)) i 0 ≡ i + 1 =
          ap (λ k. get_or (set next place (place + 1)) k 0) same.1 ∙ get_or-set_same next place (place + 1) 0 (omega (arith, lt, leads.count)) ∙ ap (λ k. k + 1) (sym same.1) in
          subst (λ j. LeadsOn new i j) (sym read)
          (record {
            later = omega arith;
            inside = omega (arith, less);
            taken = λ k ge to none. is (ap (λ j. get_or new j 0) (let e : i ≡ k = omega (arith, ge, to) in e) ∙ none);
          }))
          (λ other.
          let on = leads.each i (omega (arith, less, count)) (λ none. is (get_or-set_other buckets place i offset 0 other.1 ∙ none)) in
          subst (λ j. LeadsOn new i j) (sym (get_or-set_other next place i (place + 1) 0 other.1))
          (record {
            later = on.later;
            inside = omega (arith, on.inside, count);
            taken = taken_set buckets place offset i (get_or next i 0) lt some on.taken;
          }))
          (eqb_tells i place);
    }

-- before the first offset nothing leads anywhere
get_or-zeros : (n i : ℕ) → let zeros : List ℕ = replicate n 0 in get_or zeros i 0 ≡ 0
get_or-zeros zero i = refl
get_or-zeros (suc n) zero = refl
get_or-zeros (suc n) (suc i) = get_or-zeros n i

pub leads_none : (buckets next : List ℕ) (n : ℕ) → buckets ≡ replicate n 0 → length next ≡ length buckets → Leads buckets next
leads_none buckets next n zeros count = record {
  count = count;
  each = λ i less some. absurd (some (ap (λ xs. get_or xs i 0) zeros ∙ get_or-zeros n i));
}

-- the search for a free bucket goes past taken ones
goes_past : (buckets : List ℕ) (n start place : ℕ) → start + n ≡ place → place ≤ length buckets → AreTaken buckets start place
    → first_free start (drop start buckets) ≡ first_free place (drop place buckets)
goes_past buckets zero start place is inside are = let same : start ≡ place = omega (arith, is) in ap (λ k. first_free k (drop k buckets)) same
goes_past buckets (suc n) start place is inside are =
    sym (free_behind buckets start (omega (arith, is, inside)) (are start (omega arith) (omega (arith, is))))
    ∙ goes_past buckets n (start + 1) place (omega (arith, is)) inside (λ k ge less. are k (omega (arith, ge)) less)

past_first : (buckets : List ℕ) (start place : ℕ) → IsFirstFree buckets start place → first_free start (drop start buckets) ≡ first_free place (drop place buckets)
past_first buckets start place is = goes_past buckets (place - start) start place (omega (arith, is.behind)) is.inside is.taken

-- the first free bucket is found without going round
pub found_behind : (buckets : List ℕ) (start place : ℕ) → IsFirstFree buckets start place → place < length buckets → free_from start buckets ≡ Some place
found_behind buckets start place is lt =
    ap (λ o. option_or o (first_free 0 (take start buckets))) (past_first buckets start place is ∙ free_here buckets place lt (is.free lt))

-- there is a free one
some_place : (buckets : List ℕ) (place : ℕ) → IsFirstFree buckets 0 place → taken buckets < length buckets → place < length buckets
some_place buckets place is some = ⊎_elim
    (λ all.
    let none : first_free 0 buckets ≡ None = past_first buckets 0 place is ∙ free_nowhere buckets place all.1 in
    absurd (omega (arith, some, all_taken 0 buckets none)))
    (λ lt. lt.1)
    (leb_tells (length buckets) place)

-- the first free bucket is found by going round
pub record FoundBefore (buckets : List ℕ) (start place : ℕ) : Type 0 where
  pub inside : place < length buckets
  pub is : free_from start buckets ≡ Some place

pub found_before : (buckets : List ℕ) (start none place : ℕ) → start ≤ length buckets → IsFirstFree buckets start none → length buckets ≤ none → IsFirstFree buckets 0 place
    → taken buckets < length buckets → FoundBefore buckets start place
found_before buckets start none place le behind all first some =
    let lt = some_place buckets place first some in
    let before : place < start = ⊎_elim
    (λ ge. absurd (behind.taken place ge.1 (omega (arith, lt, all)) (first.free lt)))
    (λ less. less.1)
    (leb_tells start place) in
    let front = take start buckets in
    let count : length front ≡ start = length-take-le start buckets le in
    let is : IsFirstFree front 0 place = record {
      behind = omega arith;
      inside = omega (arith, count, before);
      taken = λ k ge less zero. first.taken k ge less (sym (get_or-take start buckets k 0 (omega (arith, less, before))) ∙ zero);
      free = λ _. get_or-take start buckets place 0 before ∙ first.free lt;
    } in
    let nowhere : first_free start (drop start buckets) ≡ None = past_first buckets start none behind ∙ free_nowhere buckets none all in
    let here : first_free 0 front ≡ Some place = past_first front 0 place is ∙ free_here front place (omega (arith, count, before)) (is.free (omega (arith, count, before))) in
    record { inside = lt; is = ap (λ o. option_or o (first_free 0 front)) nowhere ∙ here }
