-- The directory of a commit's plan has a number of bytes that a word can hold.
use Rattle.std.proofs.Common.{◌≡◌, ◌≤◌, ◌<◌, ◌+◌, ◌-◌, ◌*◌, ◌^◌, ℕ, zero, suc, cond, length, map, Option, None, Some, refl, ap, inl, inr, arith, eqb}
use Rattle.std.specs.List.{range_with_len}
use Rattle.std.proofs.lemmas.Bool.{cases_eq, eq-eqb, ne_eqb}
use Rattle.std.proofs.lemmas.List.{ext_get_or}
use Rattle.std.proofs.lemmas.List.FromFn.{get_or-map-range_with_len, length-map-range_with_len}
use Rattle.std.proofs.lemmas.List.Sums.{sum_by-cons}
use Rattle.std.proofs.lemmas.Nat.{mul-le}
use Rattle.std.proofs.Math.Nat.{div-mul-le_self}
use Rattle.table_model.specs.Bounds.{Bounds}
use Rattle.msf_blocks.specs.Blocks.{IsBlockSize, blocks_of_size}
use Rattle.msf_blocks.proofs.Sizes.{sized}
use Rattle.stream_directory.specs.Directory.{absent_size}
use Rattle.table_model.specs.Tables.{Tables}
use Rattle.type_store.specs.Shape.{Shape, Sizes, block_count, bytes_for, directory_bytes, hash_stream_size, names_stream_size, record_stream_size, size_at, stream_blocks, written_sizes}
use Rattle.type_store.specs.Written.{AreWithin}
use Rattle.type_store.proofs.Counting.{no_blocks}
use Rattle.type_store.proofs.Making.{short_hashes, short_names, short_records}
use Rattle.type_store.proofs.Sizes.{length-written_sizes}

-- the blocks of a stream that a directory can have
abbrev most_blocks : ℕ
most_blocks = 8388671

few_blocks : (size n : ℕ) → IsBlockSize size → n < absent_size → blocks_of_size size n ≤ most_blocks
few_blocks size n h short =
    let q = blocks_of_size size n in
    let s = sized size h in
    omega (arith, s.least, s.most, short, div-mul-le_self (n + (size - 1)) size, mul-le q 512 q size (omega arith) s.least)

-- sizes of which one may be another
abbrev with_size : ℕ → Option ℕ → (ℕ → Option ℕ) → ℕ → Option ℕ
with_size s o f i = cond (eqb i s) o (f i)

-- one size more adds no more than its own blocks
record Adds (size s n : ℕ) (o : Option ℕ) (f : ℕ → Option ℕ) (a m : ℕ) : Type 0 where
  pub most : stream_blocks size (map (with_size s o f) (range_with_len a m)) ≤ stream_blocks size (map f (range_with_len a m)) + n
  pub past : s < a → stream_blocks size (map (with_size s o f) (range_with_len a m)) ≡ stream_blocks size (map f (range_with_len a m))

adds : (size s n : ℕ) (o : Option ℕ) (f : ℕ → Option ℕ) → block_count size o ≤ n → (a m : ℕ) → Adds size s n o f a m
adds size s n o f le a zero = record { most = omega arith; past = λ lt. refl }
adds size s n o f le a (suc m) =
    let rest = range_with_len (a + 1) m in
    let ih = adds size s n o f le (a + 1) m in
    let with = sum_by-cons (block_count size) (with_size s o f a) (map (with_size s o f) rest) in
    let plain = sum_by-cons (block_count size) (f a) (map f rest) in
    elim (cases_eq a s) [
      | inl is ↦
          let here : block_count size (with_size s o f a) ≡ block_count size o = ap (λ t. block_count size (cond t o (f a))) (eq-eqb a s is) in
          let same = ih.past (omega (arith, is)) in
          record { most = omega (arith, with, plain, here, same, le); past = λ lt. absurd (omega (arith, lt, is)) }
      | inr ne ↦
          let here : block_count size (with_size s o f a) ≡ block_count size (f a) = ap (λ t. block_count size (cond t o (f a))) (ne_eqb a s ne) in
          record {
            most = omega (arith, with, plain, here, ih.most);
            past = λ lt. let same = ih.past (omega (arith, lt)) in omega (arith, with, plain, here, same);
          }
    ]

whole_list : (sizes : Sizes) → map (λ i. size_at sizes i) (range_with_len 0 (length sizes)) ≡ sizes
whole_list sizes =
    let f = λ (i : ℕ). size_at sizes i in
    let n = length-map-range_with_len f 0 (length sizes) in
    ext_get_or None (map f (range_with_len 0 (length sizes))) sizes n (λ i lt. get_or-map-range_with_len f 0 (length sizes) i i None (omega (arith, lt, n)) (omega arith))

blocks_written : (limits : Bounds) (shape : Shape) (tables : Tables) → IsBlockSize shape.block → AreWithin limits tables → stream_blocks shape.block (written_sizes shape tables) ≤ stream_blocks shape.block shape.sizes + 5 * most_blocks
unfolding written_sizes
blocks_written limits shape tables h within =
    let size = shape.block in
    let m = length shape.sizes in
    let o = λ (i : ℕ). size_at shape.sizes i in
    let types = Some (record_stream_size tables.types.records) in
    let items = Some (record_stream_size tables.items.records) in
    let type_hashes = Some (hash_stream_size tables.types.records) in
    let item_hashes = Some (hash_stream_size tables.items.records) in
    let names = Some (names_stream_size tables.names.names) in
    let f1 = with_size shape.names_stream names o in
    let f2 = with_size shape.item_hashes item_hashes f1 in
    let f3 = with_size shape.type_hashes type_hashes f2 in
    let f4 = with_size 4 items f3 in
    let f5 = with_size 2 types f4 in
    let a1 = (adds size shape.names_stream most_blocks names o (few_blocks size (names_stream_size tables.names.names) h (short_names tables.names within.names)) 0 m).most in
    let a2 = (adds size shape.item_hashes most_blocks item_hashes f1 (few_blocks size (hash_stream_size tables.items.records) h (short_hashes tables.items within.items)) 0 m).most in
    let a3 = (adds size shape.type_hashes most_blocks type_hashes f2 (few_blocks size (hash_stream_size tables.types.records) h (short_hashes tables.types within.types)) 0 m).most in
    let a4 = (adds size 4 most_blocks items f3 (few_blocks size (record_stream_size tables.items.records) h (short_records tables.items within.items)) 0 m).most in
    let a5 = (adds size 2 most_blocks types f4 (few_blocks size (record_stream_size tables.types.records) h (short_records tables.types within.types)) 0 m).most in
    let a6 = (adds size 0 0 (Some 0) f5 (omega (arith, no_blocks size (omega (arith, (sized size h).least)))) 0 m).most in
    let whole : stream_blocks size (map o (range_with_len 0 m)) ≡ stream_blocks size shape.sizes = ap (stream_blocks size) (whole_list shape.sizes) in
    omega (arith, a1, a2, a3, a4, a5, a6, whole)

pub directory_short : (limits : Bounds) (shape : Shape) (tables : Tables) → IsBlockSize shape.block → AreWithin limits tables → bytes_for shape.block shape.sizes ≤ 2 ^ 28 → directory_bytes shape tables < 2 ^ 32
directory_short limits shape tables h within short = omega (arith, short, blocks_written limits shape tables h within, length-written_sizes shape tables)
