-- How large the directory of an opened file is, whatever its device tells.
use Rattle.std.specs.Prelude.{◌≤◌, ℕ, List, length, Option}
use Rattle.msf_blocks.specs.declared.superblock.Super.{Super}
use Rattle.stream_directory.specs.Directory.{Spells, StreamBlocks}

-- the streams are the directory of a file with this superblock, which says how many bytes that has
pub record IsSpelled (s : Super) (streams : List (Option StreamBlocks)) : Type 0 where
  pub text : List ℕ
  pub spelled : Spells s.block text streams
  pub short : length text ≤ s.dir_bytes
