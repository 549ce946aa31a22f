-- The superblock: the text of its six numbers, and the tests that it has to pass.
use Rattle.std.specs.Prelude.{◌≤◌, ◌<◌, ℕ, ◌*◌, ◌/◌, ◌^◌, ◌==◌, ◌&&◌, ◌||◌, not, nat_eq, nat_lt, nat_le, Bool, List, [], ◌∷◌, ◌++◌, length, drop, Result, codes}
use Rattle.std.specs.List.{starts_with}
use Rattle.byteorder.specs.Endian.{little_bytes, little_number}
use Rattle.msf_blocks.specs.declared.superblock.Super.{Super}
use Rattle.msf_blocks.specs.declared.superblock.SuperFault.{SuperFault}
use Rattle.msf_blocks.specs.declared.superblock.SuperFault.TheVariants.{Magic, BlockSize, FreeMap, Blocks, Directory, MapAddr}
use Rattle.msf_blocks.specs.Judging.{first_damage, unless}
use Rattle.msf_blocks.specs.Blocks.{is_block_size, IsBlockSize, is_reserved, IsReserved, IsMap}

-- the 32 bytes with which the file begins
abbrev pub magic : List ℕ
magic = codes "Microsoft C/C++ MSF 7.00" ++ 13 ∷ 10 ∷ 26 ∷ 68 ∷ 83 ∷ 0 ∷ 0 ∷ 0 ∷ []

-- the 56 bytes of a superblock: the magic, and six numbers of four bytes each, the lowest byte first
unfoldable pub superblock_text : Super → List ℕ
superblock_text s = magic ++ little_bytes 4 s.block ++ little_bytes 4 s.map ++ little_bytes 4 s.blocks
    ++ little_bytes 4 s.dir_bytes ++ little_bytes 4 s.unknown ++ little_bytes 4 s.map_addr

-- the six numbers that bytes stand for
abbrev pub numbers_of : List ℕ → Super
numbers_of bytes = record {
  block = little_number 4 (drop 32 bytes);
  map = little_number 4 (drop 36 bytes);
  blocks = little_number 4 (drop 40 bytes);
  dir_bytes = little_number 4 (drop 44 bytes);
  unknown = little_number 4 (drop 48 bytes);
  map_addr = little_number 4 (drop 52 bytes);
}

-- the file has 56 bytes, and begins with the magic
unfoldable pub has_magic : List ℕ → ℕ → Bool
has_magic bytes file_len = nat_le 56 file_len && nat_le 56 (length bytes) && starts_with nat_eq bytes magic

-- from 4 blocks on, no more than the limit, and all of them in the file
abbrev pub has_blocks : Super → ℕ → ℕ → Bool
has_blocks s file_len limit = nat_le 4 s.blocks && nat_le s.blocks limit && nat_le (s.blocks * s.block) file_len

-- room for the number of streams, and block numbers that fit in one block
abbrev pub has_directory : Super → Bool
has_directory s = nat_le 4 s.dir_bytes && nat_le s.dir_bytes (s.block * s.block / 4)

abbrev pub has_map_addr : Super → Bool
has_map_addr s = not (is_reserved s.block s.map_addr) && nat_lt s.map_addr s.blocks

-- The tests of the numbers in their order, each with the fault of a superblock that does not pass it.
abbrev pub number_tests : Super → ℕ → ℕ → List (Bool × SuperFault)
number_tests s file_len limit =
    (is_block_size s.block, BlockSize) ∷ (s.map == 1 || s.map == 2, FreeMap) ∷ (has_blocks s file_len limit, Blocks)
    ∷ (has_directory s, Directory) ∷ (has_map_addr s, MapAddr) ∷ []

abbrev pub superblock_tests : List ℕ → ℕ → ℕ → List (Bool × SuperFault)
superblock_tests bytes file_len limit = (has_magic bytes file_len, Magic) ∷ number_tests (numbers_of bytes) file_len limit

-- the superblock that bytes at the front of a file of this length tell: six numbers, unless they fail a test
abbrev pub superblock_told : List ℕ → ℕ → ℕ → Result Super SuperFault
superblock_told bytes file_len limit = unless (first_damage (superblock_tests bytes file_len limit)) (numbers_of bytes)

-- what the tests leave of six numbers, for some length of the file and some limit
pub record IsSuper (s : Super) : Type 0 where
  pub block : IsBlockSize s.block
  pub map : IsMap s.map
  pub least_blocks : 4 ≤ s.blocks
  pub blocks_fit : s.blocks < 2 ^ 32
  pub least_dir_bytes : 4 ≤ s.dir_bytes
  pub most_dir_bytes : s.dir_bytes ≤ s.block * s.block / 4
  pub unknown_fits : s.unknown < 2 ^ 32
  pub map_addr_unreserved : ¬ IsReserved s.block s.map_addr
  pub map_addr_inside : s.map_addr < s.blocks
