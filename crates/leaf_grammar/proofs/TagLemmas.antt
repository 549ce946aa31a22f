-- What a tag has room for.
use Rattle.std.proofs.Common.{◌≡◌, ◌≤◌, ◌<◌, ◌&&◌, ◌||◌, ℕ, Bool, true, false, cond, eqb, eqb-true, List, [], ◌∷◌, length, Some, None, IsOk, refl, ap, arith, ◌⊎◌, inl, inr}
use Rattle.std.proofs.lemmas.Bool.{and_right}
use Rattle.std.specs.Prelude.{is_ok}
use Rattle.leaf_grammar.specs.declared.grammar.Space.TheVariants.{Types}
use Rattle.leaf_grammar.specs.declared.grammar.Part.{Part}
use Rattle.leaf_grammar.specs.Kinds.{parts_of, u16, flags16, type_index, numeric, text, unique_name}
use Rattle.leaf_grammar.specs.Leaf.{kind_of, leaf_of}
use Rattle.leaf_grammar.specs.Tag.{Tag, attributes_of, is_tag, tag_of, tag_with, texts_of}
use Rattle.leaf_grammar.proofs.Rooms.{number_first}

or_cases : (a b : Bool) → (a || b) ≡ true → (a ≡ true) ⊎ (b ≡ true)
or_cases true b h = inl refl
or_cases false b h = inr h

class_parts : List Part
class_parts = flags16 ∷ type_index ∷ type_index ∷ type_index ∷ numeric ∷ text ∷ unique_name ∷ []

-- the parts of a tag begin with the number of its members
tag_parts : (kind : ℕ) → is_tag kind ≡ true → (rest : List Part) × (parts_of Types kind ≡ Some (u16 ∷ rest))
unfolding parts_of class_parts
tag_parts kind h =
    elim (or_cases (eqb kind 0x1504 || eqb kind 0x1505 || eqb kind 0x1506 || eqb kind 0x1507) (eqb kind 0x1519) h) [
      | inr e ↦ (class_parts, ap (parts_of Types) (eqb-true kind 0x1519 e))
      | inl h' ↦ elim (or_cases (eqb kind 0x1504 || eqb kind 0x1505 || eqb kind 0x1506) (eqb kind 0x1507) h') [
        | inr e ↦ (flags16 ∷ type_index ∷ type_index ∷ text ∷ unique_name ∷ [], ap (parts_of Types) (eqb-true kind 0x1507 e))
        | inl h'' ↦ elim (or_cases (eqb kind 0x1504 || eqb kind 0x1505) (eqb kind 0x1506) h'') [
          | inr e ↦ (flags16 ∷ type_index ∷ numeric ∷ text ∷ unique_name ∷ [], ap (parts_of Types) (eqb-true kind 0x1506 e))
          | inl h''' ↦ elim (or_cases (eqb kind 0x1504) (eqb kind 0x1505) h''') [
            | inr e ↦ (class_parts, ap (parts_of Types) (eqb-true kind 0x1505 e))
            | inl e ↦ (class_parts, ap (parts_of Types) (eqb-true kind 0x1504 e))
          ]
        ]
      ]
    ]

pub tag_room : (r : List ℕ) → is_tag (kind_of r) ≡ true → IsOk (leaf_of Types r) → 8 ≤ length r
tag_room r t h = let p = tag_parts (kind_of r) t in number_first 1 Types r p.0 h p.1

none_without : (whole tagged : Bool) (tag : Tag) → (whole && tagged) ≡ false → cond (whole && tagged) (Some tag) None ≡ None
none_without whole tagged tag e = ap (λ b. cond b (Some tag) None) e

-- a record of another kind is no tag
pub no_tag_by_kind : (r : List ℕ) → is_tag (kind_of r) ≡ false → tag_of r ≡ None
unfolding tag_of
no_tag_by_kind r e =
    none_without (is_ok (leaf_of Types r)) (is_tag (kind_of r)) (tag_with (attributes_of r) (texts_of r)) (and_right (is_ok (leaf_of Types r)) (is_tag (kind_of r)) e)

short_is_none : (r : List ℕ) (whole tagged : Bool) → is_ok (leaf_of Types r) ≡ whole → is_tag (kind_of r) ≡ tagged → length r < 8 → (whole && tagged) ≡ false
short_is_none r true true w t h = absurd (omega (arith, tag_room r t w))
short_is_none r true false w t h = refl
short_is_none r false tagged w t h = refl

-- a record of fewer than 8 bytes is no tag
pub no_tag_by_length : (r : List ℕ) → length r < 8 → tag_of r ≡ None
unfolding tag_of
no_tag_by_length r h =
    none_without (is_ok (leaf_of Types r)) (is_tag (kind_of r)) (tag_with (attributes_of r) (texts_of r)) (short_is_none r (is_ok (leaf_of Types r)) (is_tag (kind_of r)) refl refl h)
