-- The journal as callers see it, and the pages in which it lies.
use Rattle.std.specs.Prelude.{◌≡◌, ◌≤◌, ◌<◌, ◌+◌, ◌-◌, ◌*◌, ◌^◌, ℕ, List, [], ◌∷◌, ◌++◌, length, min, All, vec_len}
use Rattle.std.specs.Vec.{vec_capacity}
use Rattle.std.specs.Global.{Vec}

-- the words in their order, and how many more there is room for
pub record Log : Type 0 where
  pub words : List ℕ
  pub spare : ℕ

-- the words of these pages, one page after another
abbrev pub words_in : List (Vec ℕ) → List ℕ
words_in [] = []
words_in (page ∷ pages) = page.items ++ words_in pages

-- for how many words there is room, on the page that is being filled and on blank ones
abbrev pub spare_in : Vec ℕ → Vec (Vec ℕ) → ℕ
spare_in page blank = min (vec_capacity page) 1024 - vec_len page + 1024 * vec_len blank

-- a page has 1,024 words
abbrev pub IsFull : Vec ℕ → Type 0
IsFull page = length page.items ≡ 1024

-- a page with room for 1,024 words has none yet
abbrev pub IsBlank : Vec ℕ → Type 0
IsBlank page = (page.items ≡ []) × (1024 ≤ vec_capacity page)

-- The full pages, the page that is being filled, and the blank ones. There is room among the full ones for each blank
-- one. Before the first page there is none at all. The words and those that there is room for are fewer than 2^32.
pub record AreInOrder (full : Vec (Vec ℕ)) (page : Vec ℕ) (blank : Vec (Vec ℕ)) : Type 0 where
  pub all_full : All IsFull full.items
  pub all_blank : All IsBlank blank.items
  pub within : vec_len page ≤ min (vec_capacity page) 1024
  pub first : vec_capacity page < 1024 → (vec_capacity page ≡ 0) × (vec_len blank ≡ 0)
  pub room : vec_len full + vec_len blank ≤ vec_capacity full
  pub few_words : 1024 * vec_len full + vec_len page + spare_in page blank < 2 ^ 32
