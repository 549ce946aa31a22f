-- The buckets of a written stream of names, by which a name is found from its hash. docs/FORMAT.md, "The stream of names".
use Rattle.std.specs.Prelude.{◌≡◌, ◌≢◌, ◌≤◌, ◌<◌, ℕ, ◌+◌, ◌/◌, ◌%◌, ◌==◌, if◌then◌else◌, List, [], ◌∷◌, ◌++◌, length, take, drop, replicate, slice_index, slice_set, Option, None, Some, unwrap_or}
use Rattle.std.specs.List.{Contains}
use Rattle.std.specs.Option.{option_map, option_or}
use Rattle.type_hash.specs.Hash.{string_v1_of, string_v2_of}

-- the hash of a name, by the version of the hashes
abbrev pub name_hash : ℕ → List ℕ → ℕ
name_hash version name = if version == 1 then string_v1_of name else string_v2_of name

-- how many buckets so many names have
abbrev pub bucket_count : ℕ → ℕ
bucket_count names = names + names / 4 + 2

-- how many buckets have an offset: those that are not 0
abbrev pub taken : List ℕ → ℕ
taken [] = 0
taken (b ∷ buckets) = if b == 0 then taken buckets else 1 + taken buckets

-- the first bucket that is 0, where the first of all has this number
abbrev pub first_free : ℕ → List ℕ → Option ℕ
first_free number [] = None
first_free number (b ∷ buckets) = if b == 0 then Some number else first_free (number + 1) buckets

-- the first bucket that is 0 from this one on, going round: behind the last comes the first of all
abbrev pub free_from : ℕ → List ℕ → Option ℕ
free_from start buckets = option_or (first_free start (drop start buckets)) (first_free 0 (take start buckets))

-- no bucket from one on is free before another
abbrev pub AreTaken : List ℕ → ℕ → ℕ → Type 0
AreTaken buckets start end = (k : ℕ) → start ≤ k → k < end → slice_index buckets k ≢ 0

-- the first bucket that is free from one on, without going round, or how many buckets there are
pub record IsFirstFree (buckets : List ℕ) (start place : ℕ) : Type 0 where
  pub behind : start ≤ place
  pub inside : place ≤ length buckets
  pub taken : AreTaken buckets start place
  pub free : place < length buckets → slice_index buckets place ≡ 0

-- a bucket leads to a later one, or to the end, with none that is free between
pub record LeadsOn (buckets : List ℕ) (from to : ℕ) : Type 0 where
  pub later : from < to
  pub inside : to ≤ length buckets
  pub taken : AreTaken buckets from to

-- so does each taken bucket
pub record Leads (buckets next : List ℕ) : Type 0 where
  pub count : length next ≡ length buckets
  pub each : (i : ℕ) → i < length buckets → slice_index buckets i ≢ 0 → LeadsOn buckets i (slice_index next i)

-- the buckets with an offset more, in the first that is free from that of the hash on
abbrev pub with_offset : ℕ → ℕ → List ℕ → List ℕ
with_offset hash offset buckets = unwrap_or (option_map (λ place. slice_set buckets place offset) (free_from (hash % length buckets) buckets)) buckets

-- the buckets with the offsets of names, each in its turn, of which the first begins at this offset
abbrev pub with_names : ℕ → ℕ → List (List ℕ) → List ℕ → List ℕ
with_names version offset [] buckets = buckets
with_names version offset (x ∷ names) buckets = with_names version (offset + length x + 1) names (with_offset (name_hash version x) offset buckets)

-- the buckets of names: all are 0 before the first name
unfoldable pub buckets_of : ℕ → List (List ℕ) → List ℕ
buckets_of version names = with_names version 1 names (replicate (bucket_count (length names)) 0)

-- the buckets before the first that is 0
abbrev pub before_free : List ℕ → List ℕ
before_free [] = []
before_free (b ∷ buckets) = if b == 0 then [] else b ∷ before_free buckets

-- the offsets that a lookup meets: those from a bucket on, going round, up to the first bucket that is 0
abbrev pub met_from : ℕ → List ℕ → List ℕ
met_from start buckets = before_free (drop start buckets ++ take start buckets)

-- A lookup of each name, from the bucket of its hash among so many on, meets the offset at which the name begins.
abbrev pub AreFound : ℕ → ℕ → ℕ → List (List ℕ) → List ℕ → Type 0
AreFound version offset count [] buckets = Unit {0}
AreFound version offset count (x ∷ names) buckets =
    Contains (met_from (name_hash version x % count) buckets) offset × AreFound version (offset + length x + 1) count names buckets
