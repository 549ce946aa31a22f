-- The PDB stream as it is written. docs/FORMAT.md, "The PDB stream".
use Rattle.std.specs.Prelude.{ℕ, List, [], ◌∷◌, ◌++◌, take, drop, codes}
use Rattle.byteorder.specs.Endian.{little_bytes}

-- the same stream with another age
abbrev pub with_age : List ℕ → ℕ → List ℕ
with_age info age = take 8 info ++ (little_bytes 4 age ++ drop 12 info)

-- the name of the stream of names, with its NUL
abbrev pub names_text : List ℕ
names_text = codes "/names" ++ 0 ∷ []

-- a map of one name, at 0, for stream 7: count, capacity, one present word, no deleted word, and a zero that ends the map
abbrev pub new_map : List ℕ
new_map =
    little_bytes 4 7 ++ (names_text ++ (little_bytes 4 1 ++ (little_bytes 4 1 ++ (little_bytes 4 1 ++ (little_bytes 4 1 ++ (little_bytes 4 0
    ++ (little_bytes 4 0 ++ (little_bytes 4 7 ++ little_bytes 4 0))))))))

-- The stream of a new file: version 20000404, age 1, the map, and the feature 20140508, which says that there are items.
unfoldable pub new_info : List ℕ → ℕ → List ℕ
new_info guid signature =
    little_bytes 4 20000404 ++ (little_bytes 4 signature ++ (little_bytes 4 1 ++ (guid ++ (new_map ++ little_bytes 4 20140508))))
