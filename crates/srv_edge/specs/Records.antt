-- Records in one list of bytes, cut at their ends.
use Rattle.std.specs.Prelude.{◌≡◌, ◌≤◌, ◌<◌, ◌-◌, ◌^◌, ℕ, zero, suc, List, [], ◌∷◌, ◌++◌, length, take, drop}

-- the records joined
abbrev pub joined : List (List ℕ) → List ℕ
joined [] = []
joined (r ∷ records) = r ++ joined records

-- the bytes cut at these ends, from a start on
abbrev pub cut_at : List ℕ → ℕ → List ℕ → List (List ℕ)
cut_at bytes start [] = []
cut_at bytes start (end ∷ ends) = take (end - start) (drop start bytes) ∷ cut_at bytes end ends

-- the ends do not fall from a start on, and the last is this
abbrev pub Rises : ℕ → List ℕ → ℕ → Type 0
Rises start [] last = start ≡ last
Rises start (end ∷ ends) last = (start ≤ end) × Rises end ends last

-- ends of the records of these bytes
pub record AreEnds (bytes ends : List ℕ) : Type 0 where
  pub rises : Rises 0 ends (length bytes)
  pub few : length ends < 2 ^ 32
  pub short : length bytes < 2 ^ 32

-- where the record at a position starts
abbrev pub start_of : ℕ → List ℕ → ℕ → ℕ
start_of start ends zero = start
start_of start [] (suc i) = start
start_of start (end ∷ ends) (suc i) = start_of end ends i
