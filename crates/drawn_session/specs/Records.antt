-- The records and names of a drawn session.
use Rattle.std.specs.Prelude.{ℕ, ◌-◌, List, [], ◌∷◌, ◌++◌, length, replicate, codes, decimal}
use Rattle.srv_edge.specs.Frames.{half_bytes, word_bytes}

-- the modifier of a type: its length, its kind, the type, its attributes and two bytes of padding
abbrev pub modifier : ℕ → ℕ → List ℕ
modifier index attributes = 10 ∷ 0 ∷ 1 ∷ 16 ∷ [] ++ word_bytes index ++ half_bytes attributes ++ 242 ∷ 241 ∷ []

-- a text of at most three bytes, filled up to four with zero bytes
abbrev pub filled : List ℕ → List ℕ
filled text = text ++ replicate (4 - length text) 0

-- the string of a number: its length, its kind, the item 0 and the number's digits
abbrev pub string_of : ℕ → List ℕ
string_of n = 10 ∷ 0 ∷ 5 ∷ 22 ∷ [] ++ word_bytes 0 ++ filled (decimal n)

-- the name of a number
abbrev pub name_of : ℕ → List ℕ
name_of n = codes "n" ++ decimal n
