-- What a line has room for.
use Rattle.std.proofs.Common.{◌≡◌, ◌≤◌, ◌<◌, ◌&&◌, ◌||◌, ℕ, Bool, true, false, cond, eqb, eqb-true, List, [], ◌∷◌, length, take, drop, Some, IsOk, refl, ap, arith, ◌⊎◌, inl, inr}
use Rattle.std.specs.Prelude.{is_ok}
use Rattle.std.proofs.lemmas.Bool.{and_left, and_right}
use Rattle.leaf_grammar.specs.declared.grammar.Space.TheVariants.{Types, Items}
use Rattle.leaf_grammar.specs.declared.grammar.Part.{Part}
use Rattle.leaf_grammar.specs.Kinds.{parts_of, u16, u32, type_index, item_index}
use Rattle.leaf_grammar.specs.Leaf.{kind_of, leaf_of}
use Rattle.leaf_grammar.proofs.Rooms.{index_first}
use Rattle.type_hash.specs.Hash.{buffer_of, string_v1_of}
use Rattle.type_hash.specs.Record.{is_line, untagged_hash}

or_cases : (a b : Bool) → (a || b) ≡ true → (a ≡ true) ⊎ (b ≡ true)
or_cases true b h = inl refl
or_cases false b h = inr h

-- the parts of a line begin with its type
line_parts : (kind : ℕ) → is_line kind ≡ true → (rest : List Part) × (parts_of Items kind ≡ Some (type_index ∷ rest))
unfolding parts_of
line_parts kind h =
    elim (or_cases (eqb kind 0x1606) (eqb kind 0x1607) h) [
      | inl e ↦ (item_index ∷ u32 ∷ [], ap (parts_of Items) (eqb-true kind 0x1606 e))
      | inr e ↦ (u32 ∷ u32 ∷ u16 ∷ [], ap (parts_of Items) (eqb-true kind 0x1607 e))
    ]

pub line_room : (r : List ℕ) → is_line (kind_of r) ≡ true → IsOk (leaf_of Items r) → 8 ≤ length r
line_room r t h = let p = line_parts (kind_of r) t in index_first Types Items r p.0 h p.1

other_hash : (r : List ℕ) → (is_ok (leaf_of Items r) && is_line (kind_of r)) ≡ false → untagged_hash r ≡ buffer_of r
other_hash r e = ap (λ b. cond b (string_v1_of (take 4 (drop 4 r))) (buffer_of r)) e

-- a record of another kind goes by all its bytes, and so does one that is no leaf
pub other_untagged : (r : List ℕ) → is_line (kind_of r) ≡ false → untagged_hash r ≡ buffer_of r
other_untagged r e = other_hash r (and_right (is_ok (leaf_of Items r)) (is_line (kind_of r)) e)

pub broken_untagged : (r : List ℕ) → is_ok (leaf_of Items r) ≡ false → untagged_hash r ≡ buffer_of r
broken_untagged r e = other_hash r (and_left (is_ok (leaf_of Items r)) (is_line (kind_of r)) e)

short_is_no_line : (r : List ℕ) (whole line : Bool) → is_ok (leaf_of Items r) ≡ whole → is_line (kind_of r) ≡ line → length r < 8 → (whole && line) ≡ false
short_is_no_line r true true w t h = absurd (omega (arith, line_room r t w))
short_is_no_line r true false w t h = refl
short_is_no_line r false line w t h = refl

-- a record of fewer than 8 bytes is no line
pub short_untagged : (r : List ℕ) → length r < 8 → untagged_hash r ≡ buffer_of r
short_untagged r h = other_hash r (short_is_no_line r (is_ok (leaf_of Items r)) (is_line (kind_of r)) refl refl h)
