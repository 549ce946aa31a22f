-- The buckets of a table's records, by their hashes.
use Rattle.std.specs.Prelude.{◌%◌, ◌==◌, ℕ, List, length, map, count_by}
use Rattle.type_hash.specs.Record.{record_hash}
use Rattle.chain_index.specs.Chains.{heads_for}

-- the hashes of the records, by which they are found
abbrev pub hashes_of : List (List ℕ) → List ℕ
hashes_of records = map record_hash records

-- the bucket of a record among so many
abbrev pub bucket_among : ℕ → List ℕ → ℕ
bucket_among count r = record_hash r % heads_for count

-- how many of the records fall in the bucket of this one
abbrev pub in_bucket : List (List ℕ) → List ℕ → ℕ
in_bucket records r = count_by (λ x. bucket_among (length records) x == bucket_among (length records) r) records
