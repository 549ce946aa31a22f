-- A lookup of a written name meets its offset.
use Rattle.std.proofs.Common.{◌≡◌, ◌≢◌, ◌≤◌, ◌<◌, ◌+◌, ◌-◌, ◌%◌, ℕ, zero, suc, cond, List, [], ◌∷◌, ◌++◌, length, get_or, set, take, drop, replicate, Option, None, Some, refl, sym, ap, subst, ⊎_elim, ◌⊎◌, inl, inr, ◌∙◌, arith}
use Rattle.std.specs.List.{Contains}
use Rattle.std.specs.Option.{option_map, unwrap_or}
use Rattle.std.proofs.lemmas.Bool.{cases_lt}
use Rattle.std.proofs.lemmas.Bool.Decides.{eqb_tells}
use Rattle.std.proofs.lemmas.List.{get_or_append_left, get_or-append_right, get_or-drop, get_or-set_other, get_or-set_same, get_or-take, length-append, length-drop, length-replicate, length-set, length-take-le}
use Rattle.names_table.specs.Buckets.{AreFound, before_free, bucket_count, first_free, met_from, name_hash, taken, with_names, with_offset}
use Rattle.names_table.proofs.FreeBuckets.{Found, found, found_before, found_behind, holds, taken-replicate}

-- no bucket of these is 0
abbrev AllTaken : ℕ → ℕ → List ℕ → Type 0
AllTaken low high buckets = (k : ℕ) → low ≤ k → k < high → get_or buckets k 0 ≢ 0

-- a lookup from a bucket on comes to this offset: before the last bucket, or going round
record MeetsBehind (start offset : ℕ) (buckets : List ℕ) : Type 0 where
  pub place : ℕ
  pub low : start ≤ place
  pub high : place < length buckets
  pub run : AllTaken start (place + 1) buckets
  pub is : get_or buckets place 0 ≡ offset

record MeetsBefore (start offset : ℕ) (buckets : List ℕ) : Type 0 where
  pub place : ℕ
  pub low : place < start
  pub high : start ≤ length buckets
  pub behind : AllTaken start (length buckets) buckets
  pub run : AllTaken 0 (place + 1) buckets
  pub is : get_or buckets place 0 ≡ offset

abbrev Meets : ℕ → ℕ → List ℕ → Type 0
Meets start offset buckets = MeetsBehind start offset buckets ⊎ MeetsBefore start offset buckets

-- ---- what is met is among the offsets that a lookup meets

more_at_front : (b offset : ℕ) (buckets : List ℕ) → b ≢ 0 → Contains (before_free buckets) offset → Contains (before_free (b ∷ buckets)) offset
more_at_front b offset buckets some has =
    let is : before_free (b ∷ buckets) ≡ b ∷ before_free buckets = ⊎_elim (λ t. absurd (some t.1)) (λ f. ap (λ t. cond t [] (b ∷ before_free buckets)) f.0) (eqb_tells b 0) in
    let made : Contains (b ∷ before_free buckets) offset = (suc has.0, omega (arith, has.1), has.2) in
    subst (λ bs. Contains bs offset) (sym is) made

front_is : (b offset : ℕ) (buckets : List ℕ) → b ≢ 0 → b ≡ offset → Contains (before_free (b ∷ buckets)) offset
front_is b offset buckets some same =
    let is : before_free (b ∷ buckets) ≡ b ∷ before_free buckets = ⊎_elim (λ t. absurd (some t.1)) (λ f. ap (λ t. cond t [] (b ∷ before_free buckets)) f.0) (eqb_tells b 0) in
    let made : Contains (b ∷ before_free buckets) offset = (0, omega arith, same) in
    subst (λ bs. Contains bs offset) (sym is) made

in_front : (buckets : List ℕ) (place offset : ℕ) → place < length buckets → ((k : ℕ) → k < place + 1 → get_or buckets k 0 ≢ 0) → get_or buckets place 0 ≡ offset → Contains (before_free buckets) offset
in_front [] place offset lt run is = absurd (omega (arith, lt))
in_front (b ∷ buckets) zero offset lt run is = front_is b offset buckets (run 0 (omega arith)) is
in_front (b ∷ buckets) (suc place) offset lt run is =
    more_at_front b offset buckets (run 0 (omega arith)) (in_front buckets place offset (omega (arith, lt)) (λ k le. run (suc k) (omega (arith, le))) is)

-- the buckets from one on, going round
behind_part : (start k : ℕ) (buckets : List ℕ) → start + k < length buckets → get_or (drop start buckets ++ take start buckets) k 0 ≡ get_or buckets (start + k) 0
behind_part start k buckets lt =
    get_or_append_left (drop start buckets) (take start buckets) 0 k (omega (arith, lt, length-drop start buckets)) ∙ get_or-drop start buckets k 0

before_part : (start k : ℕ) (buckets : List ℕ) → start ≤ length buckets → length buckets - start ≤ k → k < length buckets
    → get_or (drop start buckets ++ take start buckets) k 0 ≡ get_or buckets (k - (length buckets - start)) 0
before_part start k buckets le low high =
    get_or-append_right (drop start buckets) (take start buckets) (length buckets - start) k 0 (length-drop start buckets) low
    ∙ get_or-take start buckets (k - (length buckets - start)) 0 (omega (arith, low, high, le))

met_behind : (start offset : ℕ) (buckets : List ℕ) → MeetsBehind start offset buckets → Contains (met_from start buckets) offset
met_behind start offset buckets m =
    let all = drop start buckets ++ take start buckets in
    let steps = m.place - start in
    let at : start + steps ≡ m.place = omega (arith, m.low) in
    let size = length-append (drop start buckets) (take start buckets) in
    let inside : steps < length all = omega (arith, size, length-drop start buckets, m.low, m.high) in
    let run : (k : ℕ) → k < steps + 1 → get_or all k 0 ≢ 0 = λ k lt e. m.run (start + k) (omega arith) (omega (arith, lt, m.low)) (sym (behind_part start k buckets (omega (arith, lt, m.low, m.high))) ∙ e) in
    in_front all steps offset inside run (behind_part start steps buckets (omega (arith, at, m.high)) ∙ ap (λ k. get_or buckets k 0) at ∙ m.is)

met_before : (start offset : ℕ) (buckets : List ℕ) → MeetsBefore start offset buckets → Contains (met_from start buckets) offset
met_before start offset buckets m =
    let all = drop start buckets ++ take start buckets in
    let rest = length buckets - start in
    let steps = rest + m.place in
    let at : steps - rest ≡ m.place = omega arith in
    let size = length-append (drop start buckets) (take start buckets) in
    let inside : steps < length all = omega (arith, size, length-drop start buckets, length-take-le start buckets m.high, m.low, m.high) in
    let run : (k : ℕ) → k < steps + 1 → get_or all k 0 ≢ 0 = λ k lt e. ⊎_elim (λ l. m.behind (start + k) (omega arith) (omega (arith, l, m.high)) (sym (behind_part start k buckets (omega (arith, l, m.high))) ∙ e))
    (λ l. m.run (k - rest) (omega arith) (omega (arith, l, lt)) (sym (before_part start k buckets m.high l (omega (arith, lt, m.low, m.high))) ∙ e)) (cases_lt k rest) in
    in_front all steps offset inside run
    (before_part start steps buckets m.high (omega arith) (omega (arith, m.low, m.high)) ∙ ap (λ k. get_or buckets k 0) at ∙ m.is)

met : (start offset : ℕ) (buckets : List ℕ) → Meets start offset buckets → Contains (met_from start buckets) offset
met start offset buckets m = ⊎_elim (λ b. met_behind start offset buckets b) (λ b. met_before start offset buckets b) m

-- ---- an offset in a bucket that was 0 changes no other

still : (low high place x : ℕ) (buckets : List ℕ) → get_or buckets place 0 ≡ 0 → AllTaken low high buckets → AllTaken low high (set buckets place x)
still low high place x buckets free run = λ k le lt e.
    let apart : k ≢ place = λ same. run k le lt (ap (λ n. get_or buckets n 0) same ∙ free) in
    run k le lt (sym (get_or-set_other buckets place k x 0 apart) ∙ e)

same_at : (k place x : ℕ) (buckets : List ℕ) → get_or buckets place 0 ≡ 0 → get_or buckets k 0 ≢ 0 → get_or (set buckets place x) k 0 ≡ get_or buckets k 0
same_at k place x buckets free some = get_or-set_other buckets place k x 0 (λ same. some (ap (λ n. get_or buckets n 0) same ∙ free))

meets_still : (start offset place x : ℕ) (buckets : List ℕ) → get_or buckets place 0 ≡ 0 → Meets start offset buckets → Meets start offset (set buckets place x)
meets_still start offset place x buckets free m =
    let size = length-set buckets place x in
    ⊎_elim
    (λ (b : MeetsBehind start offset buckets). inl (record {
      place = b.place;
      low = b.low;
      high = omega (arith, size, b.high);
      run = still start (b.place + 1) place x buckets free b.run;
      is = same_at b.place place x buckets free (b.run b.place b.low (omega arith)) ∙ b.is;
    }))
    (λ (b : MeetsBefore start offset buckets). inr (record {
      place = b.place;
      low = b.low;
      high = omega (arith, size, b.high);
      behind = λ k le lt. still start (length buckets) place x buckets free b.behind k le (omega (arith, size, lt));
      run = still 0 (b.place + 1) place x buckets free b.run;
      is = same_at b.place place x buckets free (b.run b.place (omega arith) (omega arith)) ∙ b.is;
    })) m

-- the run up to the bucket of a new offset, and this one
with_last : (low place x : ℕ) (buckets : List ℕ) → place < length buckets → get_or buckets place 0 ≡ 0 → x ≢ 0 → AllTaken low place buckets → AllTaken low (place + 1) (set buckets place x)
with_last low place x buckets inside free some run = λ k le lt e.
    ⊎_elim (λ l. still low place place x buckets free run k le l e)
    (λ l. let same : k ≡ place = omega (arith, l, lt) in some (sym (get_or-set_same buckets place x 0 inside) ∙ ap (λ n. get_or (set buckets place x) n 0) (sym same) ∙ e))
    (cases_lt k place)

own_by : (start x : ℕ) (buckets : List ℕ) (f : Found start buckets) (behind : Option ℕ) → first_free start (drop start buckets) ≡ behind → start ≤ length buckets → x ≢ 0 → Meets start x (set buckets f.place x)
own_by start x buckets f (Some place) is le some =
    let b = found_behind start buckets f place is in
    inl (record {
      place = f.place;
      low = b.low;
      high = omega (arith, length-set buckets f.place x, f.inside);
      run = with_last start f.place x buckets f.inside f.free some b.run;
      is = get_or-set_same buckets f.place x 0 f.inside;
    })
own_by start x buckets f None is le some =
    let b = found_before start buckets f is le in
    inr (record {
      place = f.place;
      low = b.low;
      high = omega (arith, length-set buckets f.place x, le);
      behind = λ k low high. still start (length buckets) f.place x buckets f.free b.behind k low (omega (arith, length-set buckets f.place x, high));
      run = with_last 0 f.place x buckets f.inside f.free some b.run;
      is = get_or-set_same buckets f.place x 0 f.inside;
    })

own : (start x : ℕ) (buckets : List ℕ) (f : Found start buckets) → start ≤ length buckets → x ≢ 0 → Meets start x (set buckets f.place x)
own start x buckets f le some = own_by start x buckets f (first_free start (drop start buckets)) refl le some

-- ---- names put one after another

-- the buckets with an offset more: its lookup meets it, and all others meet what they met
record MeetsMore (hash offset : ℕ) (buckets : List ℕ) : Type 0 where
  pub own : Meets (hash % length buckets) offset (with_offset hash offset buckets)
  pub kept : (start x : ℕ) → Meets start x buckets → Meets start x (with_offset hash offset buckets)

meets_more : (hash offset : ℕ) (buckets : List ℕ) → offset ≢ 0 → taken buckets < length buckets → MeetsMore hash offset buckets
meets_more hash offset buckets some room =
    let start = hash % length buckets in
    let lt : start < length buckets = omega (arith, room) in
    let f = found start buckets (omega (arith, lt)) room in
    let is : with_offset hash offset buckets ≡ set buckets f.place offset = ap (λ o. unwrap_or (option_map (λ place. set buckets place offset) o) buckets) f.is in
    record {
      own = subst (λ bs. Meets start offset bs) (sym is) (own start offset buckets f (omega (arith, lt)) some);
      kept = λ from x m. subst (λ bs. Meets from x bs) (sym is) (meets_still from x f.place offset buckets f.free m);
    }

record MeetAll (version offset size : ℕ) (names : List (List ℕ)) (buckets : List ℕ) : Type 0 where
  pub own : (last : List ℕ) → ((start x : ℕ) → Meets start x (with_names version offset names buckets) → Meets start x last) → AreFound version offset size names last
  pub kept : (start x : ℕ) → Meets start x buckets → Meets start x (with_names version offset names buckets)

meet_all : (version offset size : ℕ) (names : List (List ℕ)) (buckets : List ℕ) → length buckets ≡ size → offset ≢ 0 → taken buckets + length names ≤ length buckets → MeetAll version offset size names buckets
meet_all version offset size [] buckets same some room = record { own = λ last keeps. tt; kept = λ start x m. m }
meet_all version offset size (name ∷ names) buckets same some room =
    let hash = name_hash version name in
    let lt : taken buckets < length buckets = omega (arith, room) in
    let h = holds hash offset buckets some lt in
    let m = meets_more hash offset buckets some lt in
    let ih = meet_all version (offset + length name + 1) size names (with_offset hash offset buckets) (h.size ∙ same) (λ e. omega (arith, e)) (omega (arith, h.size, h.count, room)) in
    record {
      own = λ last keeps. (met (hash % size) offset last (keeps (hash % size) offset (ih.kept (hash % size) offset (subst (λ (n : ℕ). Meets (hash % n) offset (with_offset hash offset buckets)) same m.own))), ih.own last keeps);
      kept = λ start x mets. ih.kept start x (m.kept start x mets);
    }

pub all_found : (version : ℕ) (names : List (List ℕ)) → AreFound version 1 (bucket_count (length names)) names (with_names version 1 names (replicate (bucket_count (length names)) 0))
all_found version names =
    let count = bucket_count (length names) in
    let zeros = replicate count 0 in
    let size = length-replicate {A = ℕ} count 0 in
    (meet_all version 1 count names zeros size (λ e. omega (arith, e)) (omega (arith, taken-replicate count, size))).own (with_names version 1 names zeros) (λ start x m. m)
