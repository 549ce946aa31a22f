-- Records in chains, by their hashes.
use Rattle.std.specs.Prelude.{◌≡◌, ◌≤◌, ◌<◌, ◌-◌, ◌*◌, ◌%◌, ◌^◌, ◌==◌, ℕ, zero, suc, nat_le, List, [], ◌∷◌, ◌++◌, length, Option, None, slice_get, slice_index, slice_index_or, if◌then◌else◌}
use Rattle.chain_index.specs.declared.links.TheConstants.{DOUBLINGS, FIRST_HEADS}

-- the heads, doubled while there are fewer than records, but only so often
abbrev pub doubled : ℕ → ℕ → ℕ → ℕ
doubled zero heads records = heads
doubled (suc often) heads records = if nat_le records heads then heads else doubled often (2 * heads) records

-- how many heads there are for so many records: the least of 4,096, 8,192 and so on that is no fewer, or
-- 2^20 where there are more records than that
unfoldable pub heads_for : ℕ → ℕ
heads_for records = doubled DOUBLINGS FIRST_HEADS records

-- the records below a number that fall in a bucket, the last of them first
abbrev pub chain_below : List ℕ → ℕ → ℕ → ℕ → List ℕ
chain_below hashes heads bucket zero = []
chain_below hashes heads bucket (suc n) =
    if slice_index hashes n % heads == bucket
    then n ∷ chain_below hashes heads bucket n
    else chain_below hashes heads bucket n

-- the bucket of a hash, among the records with these hashes
abbrev pub bucket_in : List ℕ → ℕ → ℕ
bucket_in hashes hash = hash % heads_for (length hashes)

-- all records of a bucket, the last first
abbrev pub chain_of : List ℕ → ℕ → List ℕ
chain_of hashes bucket = chain_below hashes (heads_for (length hashes)) bucket (length hashes)

-- the records of a record's bucket that are behind it in its chain
abbrev pub chain_behind : List ℕ → ℕ → List ℕ
chain_behind hashes number =
    chain_below hashes (heads_for (length hashes)) (bucket_in hashes (slice_index hashes number)) number

-- the hashes of the records, in their order, and how many more can be linked without memory
pub record Chained : Type 0 where
  pub hashes : List ℕ
  pub spare : ℕ

-- with one record more
abbrev pub linked : Chained → ℕ → Chained
linked chains hash = record { hashes = chains.hashes ++ hash ∷ []; spare = chains.spare - 1 }

-- each bucket's head and each record's next, for the records below a number
pub record AreLinked (hashes : List ℕ) (heads nexts : List (Option ℕ)) (n : ℕ) : Type 0 where
  pub front : (b : ℕ) → b < length heads → slice_index_or heads b None ≡ slice_get (chain_below hashes (length heads) b n) 0
  pub behind : (i : ℕ) → i < n → slice_index_or nexts i None ≡ slice_get (chain_below hashes (length heads) (slice_index hashes i % length heads) i) 0

-- the parts of an index: the hashes, a head for each bucket, a next for each record, and how many records there is
-- memory for
pub record AreChains (hashes : List ℕ) (heads nexts : List (Option ℕ)) (room : ℕ) : Type 0 where
  pub all : AreLinked hashes heads nexts (length hashes)
  pub counted : length heads ≡ heads_for (length hashes)
  pub long : length nexts ≡ length hashes
  pub within : length hashes ≤ room
  pub few : room < 2 ^ 32
