-- The contents of the streams of an image, by their numbers.
use Rattle.std.proofs.Common.{◌≡◌, ◌≤◌, ℕ, zero, suc, List, [], ◌∷◌, map, drop, get_or, Option, None, Some, refl, sym, ap, ◌∙◌, arith}
use Rattle.msf_blocks.specs.declared.superblock.Super.{Super}
use Rattle.stream_directory.specs.Directory.{StreamBlocks, stream_at}
use Rattle.msf_image.specs.declared.image.Image.{Image}
use Rattle.msf_image.specs.Relation.{contents_in, stream_in}
use Rattle.type_store.specs.Commits.{contents_of}
use Rattle.type_store.specs.Holds.{content_at}

each : (file : List ℕ) (s : Super) (streams : List (Option StreamBlocks)) (i : ℕ) → get_or (map (stream_in file s) streams) i None ≡ stream_in file s (stream_at streams i)
each file s [] zero = refl
each file s [] (suc i) = refl
each file s (x ∷ streams) zero = refl
each file s (x ∷ streams) (suc i) = each file s streams i

by_streams : (file : List ℕ) (s : Super) (streams : List (Option StreamBlocks)) (i : ℕ) → 1 ≤ i → content_at (Some [] ∷ map (stream_in file s) (drop 1 streams)) i ≡ stream_in file s (stream_at streams i)
by_streams file s streams zero some = absurd (omega arith)
by_streams file s [] (suc i) some = each file s [] i
by_streams file s (x ∷ streams) (suc i) some = each file s streams i

-- the content of a stream but the first is what its blocks hold
pub content_is : (file : List ℕ) (image : Image) (i : ℕ) → 1 ≤ i → content_at (contents_of file image) i ≡ stream_in file image.head (stream_at image.directory i)
content_is file image i some = by_streams file image.head image.directory i some
