-- The text of a stream of names. docs/FORMAT.md, "The stream of names".
use Rattle.std.specs.Prelude.{ℕ, List, ◌∷◌, ◌++◌, length}
use Rattle.std.specs.List.{flat_map}
use Rattle.byteorder.specs.Endian.{little_bytes}
use Rattle.names_table.specs.declared.read.TheConstants.{SIGNATURE}
use Rattle.names_table.specs.Buckets.{buckets_of}
use Rattle.names_table.specs.Names.{bytes_of}
use Rattle.names_table.specs.Strings.{strings_of}

-- the signature, the version of the hashes, and how many bytes the strings have
abbrev pub head_text : ℕ → ℕ → List ℕ
head_text version size = little_bytes 4 SIGNATURE ++ (little_bytes 4 version ++ little_bytes 4 size)

-- how many buckets there are, and the buckets
abbrev pub buckets_text : List ℕ → List ℕ
buckets_text buckets = little_bytes 4 (length buckets) ++ flat_map (little_bytes 4) buckets

-- what stands behind the strings: the buckets, and how many names there are
abbrev pub tail_text : ℕ → List (List ℕ) → List ℕ
tail_text version names = buckets_text (buckets_of version names) ++ little_bytes 4 (length names)

-- The names of a version: the header, the NUL of the empty name, each name with a NUL behind it, and the tail.
unfoldable pub names_text : ℕ → List (List ℕ) → List ℕ
names_text version names = head_text version (bytes_of names) ++ 0 ∷ (strings_of names ++ tail_text version names)
