-- Records linked in chains, as their lists grow.
use Rattle.std.proofs.Common.{◌≡◌, ◌≤◌, ◌<◌, ◌-◌, ◌%◌, ℕ, zero, suc, cond, List, [], ◌∷◌, ◌++◌, length, replicate, take, get_or, Option, None, ap, refl, sym, ◌∙◌, arith}
use Rattle.std.specs.List.{slice_get, slice_index}
use Rattle.std.proofs.Math.Dec.{eqb}
use Rattle.std.proofs.lemmas.List.{get_or_append_left, get_or_default, get_or-replicate, length-replicate}
use Rattle.std.proofs.lemmas.Grind.{common_steps}
use Rattle.chain_index.specs.Chains.{AreLinked, AreChains, bucket_in, chain_behind, chain_below, chain_of, heads_for}
use Rattle.chain_index.proofs.Heads.{heads_for-least}

-- more records behind do not change a chain
pub below_append : (hashes more : List ℕ) (heads bucket n : ℕ) → n ≤ length hashes → chain_below (hashes ++ more) heads bucket n ≡ chain_below hashes heads bucket n
below_append hashes more heads bucket zero within = refl
below_append hashes more heads bucket (suc n) within =
    let g : slice_index (hashes ++ more) n ≡ slice_index hashes n = get_or_append_left hashes more 0 n (omega arith) in
    let c = chain_below (hashes ++ more) heads bucket n in
    ap (λ h. cond (eqb (h % heads) bucket) (n ∷ c) c) g
    ∙ ap (λ d. cond (eqb (slice_index hashes n % heads) bucket) (n ∷ d) d) (below_append hashes more heads bucket n (omega arith))

-- no records are linked where all heads are of empty chains
pub AreLinked-none : (hashes : List ℕ) (heads nexts : List (Option ℕ)) → heads ≡ replicate (length heads) None → AreLinked hashes heads nexts 0
AreLinked-none hashes heads nexts empty = record {
  front = λ b within. ap (λ h. get_or h b None) empty ∙ get_or-replicate (length heads) b None None within;
  behind = λ i none. absurd (omega arith);
}

-- what is linked stays linked where the lists get longer
pub AreLinked-append : (hashes : List ℕ) (hash : ℕ) (heads nexts : List (Option ℕ)) (n : ℕ) → n ≤ length hashes → n ≤ length nexts → AreLinked hashes heads nexts n → AreLinked (hashes ++ hash ∷ []) heads (nexts ++ None ∷ []) n
AreLinked-append hashes hash heads nexts n within long are = record {
  front = λ b less. are.front b less ∙ sym (ap (λ c. slice_get c 0) (below_append hashes (hash ∷ []) (length heads) b n within));
  behind = λ i less.
      let more = hashes ++ hash ∷ [] in
      let g : slice_index more i ≡ slice_index hashes i = get_or_append_left hashes (hash ∷ []) 0 i (omega arith) in
      get_or_append_left nexts (None ∷ []) None i (omega arith) ∙ are.behind i less
      ∙ sym (ap (λ h. slice_get (chain_below more (length heads) (h % length heads) i) 0) g
      ∙ ap (λ c. slice_get c 0) (below_append hashes (hash ∷ []) (length heads) (slice_index hashes i % length heads) i (omega arith)));
}

-- an empty vector made longer
pub resized_from_none : (m had : ℕ) (old new : List (Option ℕ)) → old ≡ [] → had ≡ 0 → new ≡ take m old ++ replicate (m - had) None → new ≡ replicate m None
resized_from_none m had old new empty none is =
    let front : take m old ≡ [] = ap (take m) empty ∙ grind (arith, common_steps) in
    let all : m - had ≡ m = omega arith in
    is ∙ ap (λ t. t ++ replicate (m - had) None) front ∙ ap (λ n. replicate n None) all

pub heads_for-none : heads_for 0 ≡ 4096
unfolding heads_for
heads_for-none = refl

pub AreChains-none : (m : ℕ) (heads nexts : List (Option ℕ)) (hashes : List ℕ) → m ≡ 4096 → hashes ≡ [] → nexts ≡ [] → heads ≡ replicate m None → AreChains hashes heads nexts 0
AreChains-none m heads nexts hashes first bare none empty =
    let long : length heads ≡ m = ap length empty ∙ length-replicate m None in
    let same : heads ≡ replicate (length heads) None = empty ∙ ap (λ n. replicate n None) (sym long) in
    rw (bare, none) record {
      all = AreLinked-none [] heads [] same;
      counted = long ∙ first ∙ sym heads_for-none;
      long = refl;
      within = omega arith;
      few = omega arith;
    }

-- what is read at a bucket is the first of its chain
pub head_is : (hashes : List ℕ) (heads nexts : List (Option ℕ)) (room hash heads' : ℕ) (result : Option ℕ) → AreChains hashes heads nexts room → heads' ≡ length heads → result ≡ get_or heads (hash % heads') result → result ≡ slice_get (chain_of hashes (bucket_in hashes hash)) 0
head_is hashes heads nexts room hash heads' result are counted read =
    let some : 0 < length heads = omega (arith, are.counted, heads_for-least (length hashes)) in
    let low : hash % length heads < length heads = omega arith in
    read ∙ ap (λ m. get_or heads (hash % m) result) counted ∙ get_or_default heads (hash % length heads) result None low
    ∙ are.all.front (hash % length heads) low
    ∙ ap (λ m. slice_get (chain_below hashes m (hash % m) (length hashes)) 0) are.counted

-- what is read at a record is the first of those behind it
pub next_is : (hashes : List ℕ) (heads nexts : List (Option ℕ)) (room number : ℕ) (result : Option ℕ) → AreChains hashes heads nexts room → number < length hashes → result ≡ get_or nexts number result → result ≡ slice_get (chain_behind hashes number) 0
next_is hashes heads nexts room number result are there read =
    let low : number < length nexts = omega (arith, are.long) in
    read ∙ get_or_default nexts number result None low ∙ are.all.behind number there
    ∙ ap (λ m. slice_get (chain_below hashes m (slice_index hashes number % m) number) 0) are.counted
