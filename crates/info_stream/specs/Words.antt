-- Numbers of four bytes each.
use Rattle.std.specs.Prelude.{ℕ, List, [], ◌∷◌}
use Rattle.byteorder.specs.Endian.{little_number}

-- the whole numbers of four bytes in the bytes
abbrev pub words_in : List ℕ → List ℕ
words_in (a ∷ b ∷ c ∷ d ∷ bytes) = little_number 4 (a ∷ b ∷ c ∷ d ∷ []) ∷ words_in bytes
words_in _ = []
