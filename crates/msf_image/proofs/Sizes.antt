-- The size of a stream, and the bytes of its blocks.
use Rattle.std.proofs.Common.{◌≡◌, ◌≤◌, ◌<◌, ◌*◌, ℕ, zero, suc, List, [], ◌∷◌, length, take, get_or, Option, None, Some, subst, sym, arith}
use Rattle.std.proofs.lemmas.List.{length-take}
use Rattle.std.specs.List.{AllByRecursion}
use Rattle.msf_blocks.specs.Blocks.{IsBlockSize, blocks_of_size}
use Rattle.stream_directory.specs.Directory.{AreSized, IsSized, StreamBlocks, stream_at}
use Rattle.msf_image.proofs.Laying.{whole_blocks}

-- what is found at a place is the stream of its number
pub entry_at : (streams : List (Option StreamBlocks)) (i : ℕ) (x : Option StreamBlocks) → i < length streams → x ≡ get_or streams i x → stream_at streams i ≡ x
entry_at [] i x lt is = absurd (omega arith)
entry_at (y ∷ streams) zero x lt is = sym is
entry_at (y ∷ streams) (suc i) x lt is = entry_at streams i x (omega arith) is

sized_in : (size : ℕ) (streams : List (Option StreamBlocks)) (i : ℕ) (s : StreamBlocks) → AllByRecursion (IsSized size) streams → stream_at streams i ≡ Some s → IsSized size (Some s)
sized_in size [] i s all is = absurd cc
sized_in size (x ∷ streams) zero s all is = subst (IsSized size) is all.0
sized_in size (x ∷ streams) (suc i) s all is = sized_in size streams i s all.1 is

-- a stream but the first has as many blocks as its size takes
pub sized_at : (size : ℕ) (streams : List (Option StreamBlocks)) (i : ℕ) (s : StreamBlocks) → AreSized size streams → 1 ≤ i → stream_at streams i ≡ Some s → IsSized size (Some s)
sized_at size [] i s all some is = absurd cc
sized_at size (x ∷ streams) zero s all some is = absurd (omega arith)
sized_at size (x ∷ streams) (suc i) s all some is = sized_in size streams i s all.1 is

-- the bytes of its blocks, cut to its size, are as many as the size says
pub cut_long : (size : ℕ) (s : StreamBlocks) (bytes : List ℕ) → IsBlockSize size → IsSized size (Some s) → length bytes ≡ length s.blocks * size → length (take s.size bytes) ≡ s.size
cut_long size s bytes h sized long =
    let whole : s.size ≤ blocks_of_size size s.size * size = whole_blocks size s.size h in
    let same : length bytes ≡ blocks_of_size size s.size * size = rw (← sized.1) long in
    omega (arith, length-take s.size bytes, whole, same)
