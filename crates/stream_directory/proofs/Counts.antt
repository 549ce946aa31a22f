-- How many blocks streams have.
use Rattle.std.proofs.Common.{◌≡◌, ◌+◌, ℕ, suc, List, [], ◌∷◌, length, drop, refl, sym, ap}
use Rattle.std.specs.List.{sum_by}
use Rattle.std.proofs.lemmas.List.Sums.{sum_by-cons}
use Rattle.stream_directory.specs.Directory.{block_count, skipped_count}
use Rattle.stream_directory.specs.Reading.{directory_of, streams_of}

pub skipped_and_others : (block_size : ℕ) (sizes : List ℕ) → skipped_count block_size sizes + sum_by (block_count block_size) (drop 1 sizes) ≡ sum_by (block_count block_size) sizes
skipped_and_others block_size [] = refl
skipped_and_others block_size (size ∷ sizes) = sym (sum_by-cons (block_count block_size) size sizes)

pub length-streams_of : (block_size : ℕ) (sizes numbers : List ℕ) → length (streams_of block_size sizes numbers) ≡ length sizes
length-streams_of block_size [] numbers = refl
length-streams_of block_size (size ∷ sizes) numbers = ap (λ n. suc n) (length-streams_of block_size sizes (drop (block_count block_size size) numbers))

pub length-directory_of : (block_size : ℕ) (sizes numbers : List ℕ) → length (directory_of block_size sizes numbers) ≡ length sizes
length-directory_of block_size [] numbers = refl
length-directory_of block_size (size ∷ sizes) numbers = ap (λ n. suc n) (length-streams_of block_size sizes numbers)
