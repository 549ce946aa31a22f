-- A search along a chain: what is passed by is of other buckets, so the last equal record of the chain is the first of all.
use Rattle.std.proofs.Common.{◌≡◌, ◌≢◌, ◌≤◌, ◌<◌, ◌+◌, ◌%◌, inl, inr, ℕ, zero, suc, Bool, true, false, cond, List, [], ◌∷◌, length, take, drop, get_or, Option, Some, None, IfSome, refl, ap, subst, sym, ◌∙◌, arith}
use Rattle.std.specs.List.{slice_get, slice_index, count_by}
use Rattle.std.specs.Option.{option_map}
use Rattle.std.specs.Str.{bytes_eq}
use Rattle.std.proofs.Math.Dec.{eqb}
use Rattle.std.proofs.Math.Seq.{drop-cons, drop-length}
use Rattle.std.proofs.lemmas.Bool.{false_from_ne_true}
use Rattle.std.proofs.lemmas.Bool.Decides.{eqb_tells}
use Rattle.std.proofs.lemmas.List.{get_or-map, length-map, take_all}
use Rattle.std.proofs.lemmas.List.Sums.{count_by_more_no, count_by_more_yes}
use Rattle.std.proofs.lemmas.Option.{slice_get-get_or}
use Rattle.std.proofs.lemmas.Slice.Eq.{bytes_eq-Decides}
use Rattle.type_hash.specs.Record.{record_hash}
use Rattle.chain_index.specs.Chains.{bucket_in, chain_behind, chain_below, chain_of, heads_for}
use Rattle.chain_index.proofs.Walk.{IsIn, below_here, below_other, landing, length-past, past, past-le}
use Rattle.record_table.specs.Table.{place_of}
use Rattle.record_table.specs.Buckets.{hashes_of, in_bucket}

-- the first equal record from a place on
abbrev pub least_from : List (List ℕ) → List ℕ → ℕ → Option ℕ
least_from records r m = option_map (λ place. place + m) (place_of (drop m records) r)

-- a record of another bucket is another record
other_record : (x r : List ℕ) (heads : ℕ) → record_hash x % heads ≢ record_hash r % heads → bytes_eq x r ≡ false
other_record x r heads other =
    false_from_ne_true (bytes_eq x r) (λ same. other (ap (λ y. record_hash y % heads) ((bytes_eq-Decides x r).0 same)))

hash_at : (records : List (List ℕ)) (i : ℕ) → i < length records → slice_index (hashes_of records) i ≡ record_hash (get_or records i [])
hash_at records i low = get_or-map record_hash records i [] 0 low

pub length-hashes : (records : List (List ℕ)) → length (hashes_of records) ≡ length records
length-hashes records = length-map records record_hash

-- a record with another hash is another record
pub other_hash : (records : List (List ℕ)) (r hashes : List ℕ) (hash k : ℕ) → hashes ≡ hashes_of records → hash ≡ record_hash r → k < length records
    → slice_index hashes k ≢ hash → IfSome (slice_get records k) (λ x. false ≡ bytes_eq x r)
other_hash records r hashes hash k these of low other =
    let here : slice_index hashes k ≡ record_hash (get_or records k []) = ap (λ xs. slice_index xs k) these ∙ hash_at records k low in
    let differs : bytes_eq (get_or records k []) r ≡ false =
    false_from_ne_true (bytes_eq (get_or records k []) r) (λ same. other (here ∙ ap record_hash ((bytes_eq-Decides (get_or records k []) r).0 same) ∙ sym of)) in
    subst (λ (o : Option (List ℕ)). IfSome o (λ x. false ≡ bytes_eq x r)) (sym (slice_get-get_or records k [] low)) (sym differs)

-- two steps further are one
shifted : (o : Option ℕ) (m : ℕ) → option_map (λ place. place + m) (option_map (λ place. place + 1) o) ≡ option_map (λ place. place + suc m) o
shifted None m = refl
shifted (Some p) m = let e : p + 1 + m ≡ p + suc m = omega arith in ap Some e

-- another record is passed by
least_on : (records : List (List ℕ)) (r : List ℕ) (m : ℕ) → m < length records → bytes_eq (get_or records m []) r ≡ false → least_from records r m ≡ least_from records r (suc m)
least_on records r m low other =
    ap (λ rest. option_map (λ place. place + m) (place_of rest r)) (drop-cons records m [] low)
    ∙ ap (λ b. option_map (λ place. place + m) (cond b (Some 0) (option_map (λ place. place + 1) (place_of (drop (suc m) records) r)))) other
    ∙ shifted (place_of (drop (suc m) records) r) m

-- an equal record is the first from itself on
least_here : (records : List (List ℕ)) (r : List ℕ) (m : ℕ) → m < length records → bytes_eq (get_or records m []) r ≡ true → least_from records r m ≡ Some m
least_here records r m low same =
    let e : 0 + m ≡ m = omega arith in
    ap (λ rest. option_map (λ place. place + m) (place_of rest r)) (drop-cons records m [] low)
    ∙ ap (λ b. option_map (λ place. place + m) (cond b (Some 0) (option_map (λ place. place + 1) (place_of (drop (suc m) records) r)))) same
    ∙ ap Some e

-- between a place and the first of the chain below it no record is equal
pub least_past : (records : List (List ℕ)) (r : List ℕ) (heads n : ℕ) (at : Option ℕ) → n ≤ length records → at ≡ slice_get (chain_below (hashes_of records) heads (record_hash r % heads) n) 0 → least_from records r (past at) ≡ least_from records r n
least_past records r heads zero at within is = rw is refl
least_past records r heads (suc n) at within is =
    let hashes = hashes_of records in
    let bucket = record_hash r % heads in
    let low : n < length records = omega arith in
    elim (eqb_tells (slice_index hashes n % heads) bucket) [
      | inl e ↦
          let i : at ≡ Some n = is ∙ ap (λ c. slice_get c 0) (below_here hashes heads bucket n e.1) in
          let next : n + 1 ≡ suc n = omega arith in
          ap (λ a. least_from records r (past a)) i ∙ ap (least_from records r) next
      | inr e ↦
          let other = other_record (get_or records n []) r heads (λ same. e.1 (ap (λ h. h % heads) (hash_at records n low) ∙ same)) in
          least_past records r heads n at (omega arith) (is ∙ ap (λ c. slice_get c 0) (below_other hashes heads bucket n e.1))
          ∙ least_on records r n low other
    ]

-- how long a chain is
pub length-chain : (records : List (List ℕ)) (heads bucket n : ℕ) → n ≤ length records → length (chain_below (hashes_of records) heads bucket n) ≡ count_by (λ x. eqb (record_hash x % heads) bucket) (take n records)
length-chain records heads bucket zero within = refl
length-chain records heads bucket (suc n) within =
    let hashes = hashes_of records in
    let p = λ (x : List ℕ). eqb (record_hash x % heads) bucket in
    let low : n < length records = omega arith in
    let next : n + 1 ≡ suc n = omega arith in
    let test : p (get_or records n []) ≡ eqb (slice_index hashes n % heads) bucket = ap (λ h. eqb (h % heads) bucket) (sym (hash_at records n low)) in
    let ih = length-chain records heads bucket n (omega arith) in
    elim (eqb_tells (slice_index hashes n % heads) bucket) [
      | inl e ↦
          let one : suc (length (chain_below hashes heads bucket n)) ≡ length (chain_below hashes heads bucket n) + 1 = omega arith in
          ap length (below_here hashes heads bucket n e.1) ∙ one ∙ ap (λ k. k + 1) ih
          ∙ sym (count_by_more_yes p records n [] low (test ∙ e.0)) ∙ ap (λ k. count_by p (take k records)) next
      | inr e ↦
          ap length (below_other hashes heads bucket n e.1) ∙ ih
          ∙ sym (count_by_more_no p records n [] low (test ∙ e.0)) ∙ ap (λ k. count_by p (take k records)) next
    ]

-- In the midst of a search: the walk is at a record of the bucket or at the end, and what was found is the first equal record
-- of those past it.
pub record IsMid (records : List (List ℕ)) (r : List ℕ) (heads : ℕ) (at found : Option ℕ) : Type 0 where
  pub within : IsIn (hashes_of records) heads (record_hash r % heads) at
  pub least : found ≡ least_from records r (past at)

-- how many records of the bucket are left
abbrev pub left : List (List ℕ) → List ℕ → ℕ → Option ℕ → ℕ
left records r heads at = length (chain_below (hashes_of records) heads (record_hash r % heads) (past at))

-- before the first record of the chain
pub mid_first : (records : List (List ℕ)) (r : List ℕ) (heads : ℕ) (at : Option ℕ) → at ≡ slice_get (chain_below (hashes_of records) heads (record_hash r % heads) (length (hashes_of records))) 0 → IsMid records r heads at None
mid_first records r heads at is =
    let hashes = hashes_of records in
    let bucket = record_hash r % heads in
    let n = length-hashes records in
    let here = is ∙ ap (λ k. slice_get (chain_below hashes heads bucket k) 0) n in
    let none : least_from records r (length records) ≡ None = ap (λ rest. option_map (λ place. place + length records) (place_of rest r)) (drop-length records) in
    record {
      within = (landing hashes heads bucket (length hashes) at (omega arith) is).0;
      least = sym (least_past records r heads (length records) at (omega arith) here ∙ none);
    }

-- all records of the bucket are left there
pub left_first : (records : List (List ℕ)) (r : List ℕ) (at : Option ℕ) → at ≡ slice_get (chain_below (hashes_of records) (heads_for (length records)) (record_hash r % heads_for (length records)) (length (hashes_of records))) 0 → left records r (heads_for (length records)) at ≡ in_bucket records r
left_first records r at is =
    let hashes = hashes_of records in
    let heads = heads_for (length records) in
    let bucket = record_hash r % heads in
    let n = length-hashes records in
    let p = λ (x : List ℕ). eqb (record_hash x % heads) bucket in
    ap length (landing hashes heads bucket (length hashes) at (omega arith) is).1
    ∙ ap (λ k. length (chain_below hashes heads bucket k)) n ∙ length-chain records heads bucket (length records) (omega arith)
    ∙ ap (count_by p) (take_all (length records) records (omega arith))

-- what is found at a record, by whether it is equal
least_choice : (records : List (List ℕ)) (r : List ℕ) (k : ℕ) (found : Option ℕ) (same : Bool) → k < length records → found ≡ least_from records r (suc k) → bytes_eq (get_or records k []) r ≡ same → cond same (Some k) found ≡ least_from records r k
least_choice records r k found true low before tests = sym (least_here records r k low tests)
least_choice records r k found false low before tests = before ∙ sym (least_on records r k low tests)

-- one record further
pub mid_next : (records : List (List ℕ)) (r : List ℕ) (heads k : ℕ) (found after at : Option ℕ) (same : Bool) → IsMid records r heads (Some k) found → bytes_eq (get_or records k []) r ≡ same → after ≡ cond same (Some k) found → at ≡ slice_get (chain_below (hashes_of records) heads (slice_index (hashes_of records) k % heads) k) 0 → IsMid records r heads at after
mid_next records r heads k found after at same mid tests is next =
    let hashes = hashes_of records in
    let bucket = record_hash r % heads in
    let low : k < length records = omega (arith, mid.within.0, length-hashes records) in
    let here = next ∙ ap (λ b. slice_get (chain_below hashes heads b k) 0) mid.within.1 in
    let one : suc k ≡ k + 1 = omega arith in
    let rest : least_from records r (past at) ≡ least_from records r k = least_past records r heads k at (omega arith) here in
    record {
      within = (landing hashes heads bucket k at (omega (arith, mid.within.0)) here).0;
      least = is ∙ least_choice records r k found same low (mid.least ∙ ap (least_from records r) (sym one)) tests ∙ sym rest;
    }

-- and one fewer is left
pub left_next : (records : List (List ℕ)) (r : List ℕ) (heads k : ℕ) (found at : Option ℕ) → IsMid records r heads (Some k) found → at ≡ slice_get (chain_below (hashes_of records) heads (slice_index (hashes_of records) k % heads) k) 0 → left records r heads (Some k) ≡ left records r heads at + 1
left_next records r heads k found at mid next =
    let hashes = hashes_of records in
    let bucket = record_hash r % heads in
    let here = next ∙ ap (λ b. slice_get (chain_below hashes heads b k) 0) mid.within.1 in
    length-past hashes heads bucket k mid.within.1
    ∙ ap (λ n. n + 1) (sym (ap length (landing hashes heads bucket k at (omega (arith, mid.within.0)) here).1))

-- at the end the first of all was found
pub least_all : (records : List (List ℕ)) (r : List ℕ) → least_from records r 0 ≡ place_of records r
least_all records r = unmoved (place_of records r) where
  unmoved : (o : Option ℕ) → option_map (λ place. place + 0) o ≡ o
  unmoved None = refl
  unmoved (Some p) = let e : p + 0 ≡ p = omega arith in ap Some e

-- a place is one of the records
pub place_of-bound : (records : List (List ℕ)) (r : List ℕ) → IfSome (place_of records r) (λ p. p < length records)
place_of-bound [] r = tt
place_of-bound (x ∷ records) r = either (bytes_eq x r) (place_of records r) (place_of-bound records r) where
  either : (b : Bool) (o : Option ℕ) → IfSome o (λ p. p < length records) → IfSome (cond b (Some 0) (option_map (λ place. place + 1) o)) (λ p. p < length (x ∷ records))
  either true o bound = let some : 0 < suc (length records) = omega arith in some
  either false None bound = tt
  either false (Some p) bound = let low : p < length records = bound in let more : p + 1 < suc (length records) = omega arith in more

-- where a walk begins, among the hashes of records
pub first_at : (records : List (List ℕ)) (r hashes : List ℕ) (hash : ℕ) (at : Option ℕ) → hashes ≡ hashes_of records → hash ≡ record_hash r → at ≡ slice_get (chain_of hashes (bucket_in hashes hash)) 0 → at ≡ slice_get (chain_below (hashes_of records) (heads_for (length records)) (record_hash r % heads_for (length records)) (length (hashes_of records))) 0
first_at records r hashes hash at these of is =
    let all = hashes_of records in
    is ∙ ap (λ xs. slice_get (chain_of xs (bucket_in xs hash)) 0) these ∙ ap (λ h. slice_get (chain_of all (bucket_in all h)) 0) of
    ∙ ap (λ n. slice_get (chain_below all (heads_for n) (record_hash r % heads_for n) (length all)) 0) (length-hashes records)

-- where it goes on
next_at : (records : List (List ℕ)) (hashes : List ℕ) (k : ℕ) (at : Option ℕ) → hashes ≡ hashes_of records → at ≡ slice_get (chain_behind hashes k) 0 → at ≡ slice_get (chain_below (hashes_of records) (heads_for (length records)) (slice_index (hashes_of records) k % heads_for (length records)) k) 0
next_at records hashes k at these is =
    let all = hashes_of records in
    is ∙ ap (λ xs. slice_get (chain_behind xs k) 0) these
    ∙ ap (λ n. slice_get (chain_below all (heads_for n) (slice_index all k % heads_for n) k) 0) (length-hashes records)

-- what a round keeps
pub record IsOn (records : List (List ℕ)) (r : List ℕ) (k : ℕ) (at found : Option ℕ) : Type 0 where
  pub mid : IsMid records r (heads_for (length records)) at found
  pub one : left records r (heads_for (length records)) (Some k) ≡ left records r (heads_for (length records)) at + 1
  pub falls : past at < k + 1

pub mid_on : (records : List (List ℕ)) (r hashes : List ℕ) (k : ℕ) (found after at : Option ℕ) (same : Bool) → hashes ≡ hashes_of records → IsMid records r (heads_for (length records)) (Some k) found → IfSome (slice_get records k) (λ x. same ≡ bytes_eq x r) → after ≡ cond same (Some k) found → at ≡ slice_get (chain_behind hashes k) 0 → IsOn records r k at after
mid_on records r hashes k found after at same these mid tests is step =
    let heads = heads_for (length records) in
    let next = next_at records hashes k at these step in
    let low : k < length records = omega (arith, mid.within.0, length-hashes records) in
    let there : same ≡ bytes_eq (get_or records k []) r = subst (λ (o : Option (List ℕ)). IfSome o (λ x. same ≡ bytes_eq x r)) (slice_get-get_or records k [] low) tests in
    let down = past-le (hashes_of records) heads (slice_index (hashes_of records) k % heads) k at next in
    record {
      mid = mid_next records r heads k found after at same mid (sym there) is next;
      one = left_next records r heads k found at mid next;
      falls = omega (arith, down);
    }
