-- The first missing field of those that a visitor was shown.
use Rattle.std.specs.Prelude.{ℕ, [], ◌∷◌, Option, Some, None}
use Rattle.leaf_grammar.specs.declared.grammar.Space.{Space}
use Rattle.index_fields.specs.declared.missing.Seen.{Seen}
use Rattle.index_fields.specs.Fields.{Field, missing_among}

-- one that was there already, or else this
abbrev pub first_of : Option (Space × ℕ) → Option (Space × ℕ) → Option (Space × ℕ)
first_of None next = next
first_of (Some first) next = Some first

-- the visitor behind one more field
abbrev pub seen_with : Seen → Field → Seen
seen_with s f = record s { missing = first_of s.missing (missing_among (f ∷ []) s.types s.items) }
