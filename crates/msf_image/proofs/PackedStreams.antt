-- The directory and the superblock of a packed file: they are as a reader wants them.
use Rattle.std.proofs.Common.{◌≡◌, ◌≤◌, ◌<◌, ◌+◌, ◌^◌, ◌++◌, ◌||◌, ℕ, zero, suc, Bool, true, false, cond, eqb, List, [], ◌∷◌, length, map, get_or, All, Option, None, Some, refl, sym, ap, subst, ◌∙◌, inl, arith}
use Rattle.std.specs.List.{AllByRecursion, flat_map, list_any}
use Rattle.std.proofs.lemmas.Bool.{both_ways, ne_eqb}
use Rattle.std.proofs.lemmas.List.Elements.{All-head, All-tail}
use Rattle.std.proofs.lemmas.List.FromFn.{length-map-range_with_len}
use Rattle.std.proofs.lemmas.List.Sums.{sum_by-cons}
use Rattle.std.proofs.Math.Nat.{div-eq_of_lt}
use Rattle.msf_blocks.specs.declared.superblock.Super.{Super}
use Rattle.msf_blocks.specs.Blocks.{IsBlockSize, blocks_of_size}
use Rattle.msf_blocks.specs.Superblock.{IsSuper}
use Rattle.msf_blocks.proofs.Sizes.{sized}
use Rattle.stream_directory.specs.Directory.{AreSized, AreUsable, IsDirectory, IsFirst, IsSized, absent_size, blocks_in, directory_text, size_field, skipped_count}
use Rattle.stream_directory.proofs.Streams.{length-directory_text}
use Rattle.msf_image.specs.Packed.{IsPackable, directory_blocks_of, directory_bytes, given_block, given_from, packed_directory, packed_listed, packed_map_addr, packed_super, stream_blocks, stream_bytes, stream_count, stream_from, streams_from}
use Rattle.msf_image.proofs.Giving.{given_is, given_once, given_unreserved, no_earlier}

-- no bytes take no block
pub none_counted : (size : ℕ) → IsBlockSize size → blocks_of_size size 0 ≡ 0
none_counted size h = div-eq_of_lt (omega (arith, (sized size h).least))

-- ---- the streams

given_from-more : (size k n m : ℕ) → given_from size k n ++ given_from size (k + n) m ≡ given_from size k (n + m)
given_from-more size k zero m =
    let here : k + 0 ≡ k = omega arith in
    let all : m ≡ 0 + m = omega arith in
    ap (λ j. given_from size j m) here ∙ ap (given_from size k) all
given_from-more size k (suc n) m =
    let here : k + suc n ≡ k + 1 + n = omega arith in
    let all : suc (n + m) ≡ suc n + m = omega arith in
    ap (λ j. given_block size k ∷ (given_from size (k + 1) n ++ given_from size j m)) here ∙ ap (λ xs. given_block size k ∷ xs) (given_from-more size (k + 1) n m) ∙ ap (given_from size k) all

pub length-streams_from : (size k : ℕ) (streams : List (Option (List ℕ))) → length (streams_from size k streams) ≡ length streams
length-streams_from size k [] = refl
length-streams_from size k (x ∷ streams) = ap (λ n. suc n) (length-streams_from size (k + stream_count size x) streams)

blocks_of_one : (size k : ℕ) (x : Option (List ℕ)) → IsBlockSize size → blocks_in (stream_from size k x) ≡ given_from size k (stream_count size x)
blocks_of_one size k None h = ap (given_from size k) (sym (none_counted size h))
blocks_of_one size k (Some bytes) h = refl

blocks_from : (size k : ℕ) (streams : List (Option (List ℕ))) → IsBlockSize size → flat_map blocks_in (streams_from size k streams) ≡ given_from size k (stream_blocks size streams)
blocks_from size k [] h = refl
blocks_from size k (x ∷ streams) h =
    let count = stream_count size x in
    ap (λ xs. xs ++ flat_map blocks_in (streams_from size (k + count) streams)) (blocks_of_one size k x h)
    ∙ ap (λ xs. given_from size k count ++ xs) (blocks_from size (k + count) streams h) ∙ given_from-more size k count (stream_blocks size streams)
    ∙ ap (given_from size k) (sym (sum_by-cons (stream_count size) x streams))

sized_one : (size k : ℕ) (x : Option (List ℕ)) → length (stream_bytes x) < absent_size → IsSized size (stream_from size k x)
sized_one size k None few = tt
sized_one size k (Some bytes) few = (few, length-map-range_with_len (given_block size) k (blocks_of_size size (length bytes)))

sized_from : (size k : ℕ) (streams : List (Option (List ℕ))) → All (λ stream. length (stream_bytes stream) < absent_size) streams → AllByRecursion (IsSized size) (streams_from size k streams)
sized_from size k [] few = tt
sized_from size k (x ∷ streams) few = (
  sized_one size k x (All-head (λ stream. length (stream_bytes stream) < absent_size) x streams few),
  sized_from size (k + stream_count size x) streams (All-tail (λ stream. length (stream_bytes stream) < absent_size) x streams few),
)

-- stream 0, which is empty or absent
first_sized : (size : ℕ) (x : Option (List ℕ)) → IsBlockSize size → stream_bytes x ≡ [] → IsFirst (stream_from size 0 x)
first_sized size None h first = tt
first_sized size (Some bytes) h first =
    let none : length bytes ≡ 0 = ap length first in
    (omega (arith, none), ap (given_from size 0) (ap (blocks_of_size size) none ∙ none_counted size h))

are_sized : (size : ℕ) (streams : List (Option (List ℕ))) → IsBlockSize size → stream_bytes (get_or streams 0 None) ≡ [] → All (λ stream. length (stream_bytes stream) < absent_size) streams → AreSized size (streams_from size 0 streams)
are_sized size [] h first few = tt
are_sized size (x ∷ streams) h first few =
    (first_sized size x h first, sized_from size (0 + stream_count size x) streams (All-tail (λ stream. length (stream_bytes stream) < absent_size) x streams few))

none_skipped_from : (size : ℕ) (streams : List (Option (List ℕ))) → IsBlockSize size → stream_bytes (get_or streams 0 None) ≡ [] → skipped_count size (map size_field (streams_from size 0 streams)) ≡ 0
none_skipped_from size [] h first = refl
none_skipped_from size (None ∷ streams) h first = refl
none_skipped_from size (Some bytes ∷ streams) h first =
    let none : length bytes ≡ 0 = ap length first in
    ap (λ n. cond (eqb n absent_size) 0 (blocks_of_size size n)) none ∙ none_counted size h

pub none_skipped : (size : ℕ) (streams : List (Option (List ℕ))) → IsPackable size streams → skipped_count size (map size_field (packed_directory size streams)) ≡ 0
unfolding packed_directory
none_skipped size streams p = none_skipped_from size streams p.block p.first

pub kept_blocks : (size : ℕ) (streams : List (Option (List ℕ))) → IsBlockSize size → flat_map blocks_in (packed_directory size streams) ≡ given_from size 0 (stream_blocks size streams)
unfolding packed_directory
kept_blocks size streams h = blocks_from size 0 streams h

pub length-packed_directory : (size : ℕ) (streams : List (Option (List ℕ))) → length (packed_directory size streams) ≡ length streams
unfolding packed_directory
length-packed_directory size streams = length-streams_from size 0 streams

pub length-packed_text : (size : ℕ) (streams : List (Option (List ℕ))) → IsBlockSize size → length (directory_text (packed_directory size streams)) ≡ directory_bytes size streams
unfolding directory_bytes
length-packed_text size streams h =
    omega (arith, length-directory_text (packed_directory size streams), length-packed_directory size streams, ap length (kept_blocks size streams h), length-map-range_with_len (given_block size) 0 (stream_blocks size streams))

-- ---- the superblock

pub is_super : (size unknown : ℕ) (streams : List (Option (List ℕ))) → unknown < 2 ^ 32 → IsPackable size streams → IsSuper (packed_super size unknown streams)
unfolding directory_bytes packed_map_addr
is_super size unknown streams fits p =
    let last = stream_blocks size streams + directory_blocks_of size streams in
    let is = given_is size last p.block in
    record {
      block = p.block;
      map = inl refl;
      least_blocks = omega (arith, is.least);
      blocks_fit = omega (arith, p.blocks);
      least_dir_bytes = omega arith;
      most_dir_bytes = p.directory;
      unknown_fits = fits;
      map_addr_unreserved = λ reserved. both_ways _ (given_unreserved size last p.block) reserved;
      map_addr_inside = omega arith;
    }

-- ---- the blocks that are used

none_among : (size k a n : ℕ) → IsBlockSize size → ((j : ℕ) → a ≤ j → j < a + n → j ≡ k → ⊥) → list_any (λ x. eqb x (given_block size k)) (given_from size a n) ≡ false
none_among size k a zero h apart = refl
none_among size k a (suc n) h apart =
    ap (λ t. t || list_any (λ x. eqb x (given_block size k)) (given_from size (a + 1) n)) (ne_eqb (given_block size a) (given_block size k) (λ e. apart a (omega arith) (omega arith) (given_once size a k h e)))
    ∙ none_among size k (a + 1) n h (λ j from to e. apart j (omega (arith, from)) (omega (arith, to)) e)

any-append : (p : ℕ → Bool) (xs ys : List ℕ) → list_any p xs ≡ false → list_any p ys ≡ false → list_any p (xs ++ ys) ≡ false
any-append p [] ys none other = other
any-append p (x ∷ xs) ys none other = step (p x) none (λ e. any-append p xs ys e other)
  where
    step : (t : Bool) → (t || list_any p xs) ≡ false → (list_any p xs ≡ false → list_any p (xs ++ ys) ≡ false) → (t || list_any p (xs ++ ys)) ≡ false
    step true e more = absurd cc
    step false e more = more e

usable_from : (s : Super) (earlier : List ℕ) (a n : ℕ) → IsBlockSize s.block → ((k : ℕ) → a ≤ k → k < a + n → given_block s.block k < s.blocks)
    → ((k : ℕ) → a ≤ k → k < a + n → list_any (λ x. eqb x (given_block s.block k)) earlier ≡ false) → AreUsable s earlier (given_from s.block a n)
usable_from s earlier a zero h inside apart = tt
usable_from s earlier a (suc n) h inside apart = (
  λ reserved. both_ways _ (given_unreserved s.block a h) reserved,
  inside a (omega arith) (omega arith),
  apart a (omega arith) (omega arith),
  usable_from s (earlier ++ given_block s.block a ∷ []) (a + 1) n h (λ k from to. inside k (omega (arith, from)) (omega (arith, to)))
      (λ k from to. any-append (λ x. eqb x (given_block s.block k)) earlier (given_block s.block a ∷ []) (apart k (omega (arith, from)) (omega (arith, to)))
      (ap (λ t. t || false) (ne_eqb (given_block s.block a) (given_block s.block k) (λ e. let same = given_once s.block a k h e in omega (arith, same, from))))),
)

-- a given block up to the block map is one of the file
pub inside_packed : (size unknown : ℕ) (streams : List (Option (List ℕ))) → IsBlockSize size → (k : ℕ) → k ≤ stream_blocks size streams + directory_blocks_of size streams → given_block size k < (packed_super size unknown streams).blocks
unfolding packed_map_addr
inside_packed size unknown streams h k le = omega (arith, no_earlier size k (stream_blocks size streams + directory_blocks_of size streams) h le)

pub listed_usable : (size unknown : ℕ) (streams : List (Option (List ℕ))) → IsPackable size streams → AreUsable (packed_super size unknown streams) [] (packed_map_addr size streams ∷ packed_listed size streams)
unfolding packed_listed packed_map_addr
listed_usable size unknown streams p =
    let s = packed_super size unknown streams in
    let n = stream_blocks size streams in
    let d = directory_blocks_of size streams in
    let h = p.block in (
      λ reserved. both_ways _ (given_unreserved size (n + d) h) reserved,
      inside_packed size unknown streams h (n + d) (omega arith),
      refl,
      usable_from s (given_block size (n + d) ∷ []) n d h (λ k from to. inside_packed size unknown streams h k (omega (arith, to)))
          (λ k from to. ap (λ t. t || false) (ne_eqb (given_block size (n + d)) (given_block size k) (λ e. let same = given_once size (n + d) k h e in omega (arith, same, to)))),
    )

pub kept_usable : (size unknown : ℕ) (streams : List (Option (List ℕ))) → IsPackable size streams
    → AreUsable (packed_super size unknown streams) (packed_map_addr size streams ∷ packed_listed size streams) (given_from size 0 (stream_blocks size streams))
unfolding packed_listed packed_map_addr
kept_usable size unknown streams p =
    let s = packed_super size unknown streams in
    let n = stream_blocks size streams in
    let d = directory_blocks_of size streams in
    let h = p.block in
    usable_from s (given_block size (n + d) ∷ given_from size n d) 0 n h (λ k from to. inside_packed size unknown streams h k (omega (arith, to)))
    (λ k from to. ap (λ t. t || list_any (λ x. eqb x (given_block size k)) (given_from size n d)) (ne_eqb (given_block size (n + d)) (given_block size k) (λ e. let same = given_once size (n + d) k h e in omega (arith, same, to)))
    ∙ none_among size k n d h (λ j low high e. omega (arith, low, e, to)))

sized_packed : (size : ℕ) (streams : List (Option (List ℕ))) → IsPackable size streams → AreSized size (packed_directory size streams)
unfolding packed_directory
sized_packed size streams p = are_sized size streams p.block p.first p.sizes

pub is_directory : (size unknown : ℕ) (streams : List (Option (List ℕ))) → IsPackable size streams
    → IsDirectory (packed_super size unknown streams) (packed_map_addr size streams ∷ packed_listed size streams) (packed_directory size streams)
is_directory size unknown streams p = record {
  few = omega (arith, length-packed_directory size streams, p.few);
  sized = sized_packed size streams p;
  usable = subst (AreUsable (packed_super size unknown streams) (packed_map_addr size streams ∷ packed_listed size streams)) (sym (kept_blocks size streams p.block)) (kept_usable size unknown streams p);
}
