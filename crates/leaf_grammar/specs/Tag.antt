-- What stands in a tag beside its fields. A tag is a class, a structure, an interface, a union or an enum.
use Rattle.std.specs.Prelude.{ℕ, ◌==◌, Bool, true, false, ◌&&◌, ◌||◌, List, [], ◌∷◌, drop, Option, Some, None, unwrap_or, slice_get, is_ok, if◌then◌else◌}
use Rattle.std.specs.List.{before_first}
use Rattle.leaf_grammar.specs.declared.grammar.Space.TheVariants.{Types}
use Rattle.leaf_grammar.specs.declared.grammar.Width.TheVariants.{TwoBytes}
use Rattle.leaf_grammar.specs.declared.grammar.Form.{Form}
use Rattle.leaf_grammar.specs.declared.grammar.Form.TheVariants as form
use Rattle.leaf_grammar.specs.declared.grammar.Condition.TheVariants.{UniquelyNamed}
use Rattle.leaf_grammar.specs.Kinds.{parts_of, rows_of}
use Rattle.leaf_grammar.specs.Leaf.{has_bits, kind_of, leaf_of, number_at, says}
use Rattle.leaf_grammar.specs.Found.{found_in_content}

-- the text that stands at a place, without its NUL
abbrev pub text_from : List ℕ → ℕ → List ℕ
text_from r at = before_first (λ byte. byte == 0) (drop at r)

unfoldable pub texts_in : Form → List ℕ → ℕ → List (List ℕ)
texts_in form.Text r at = text_from r at ∷ []
texts_in (form.Index space) r at = []
texts_in (form.Number size) r at = []
texts_in form.Numeric r at = []
texts_in (form.List width element) r at = []

abbrev pub is_text_form : Form → Bool
is_text_form form.Text = true
is_text_form (form.Index space) = false
is_text_form (form.Number size) = false
is_text_form form.Numeric = false
is_text_form (form.List width element) = false

-- the texts of a type, from left to right
unfoldable pub texts_of : List ℕ → List (List ℕ)
texts_of r = found_in_content texts_in (parts_of Types (kind_of r)) (rows_of (kind_of r)) r

-- LF_CLASS, LF_STRUCTURE, LF_UNION, LF_ENUM, LF_INTERFACE
abbrev pub is_tag : ℕ → Bool
is_tag kind = (kind == 0x1504) || (kind == 0x1505) || (kind == 0x1506) || (kind == 0x1507) || (kind == 0x1519)

-- the attributes of a tag, which stand behind the number of its members
abbrev pub attributes_of : List ℕ → ℕ
attributes_of r = number_at TwoBytes r 6

-- what stands in a tag beside its fields
pub record Tag : Type 0 where
  -- a forward reference: the tag is described elsewhere
  pub is_forward : Bool
  -- declared within a function
  pub is_scoped : Bool
  pub name : List ℕ
  -- the text that tells it from all other tags
  pub unique_name : Option (List ℕ)

abbrev pub text_at_position : List (List ℕ) → ℕ → List ℕ
text_at_position texts n = unwrap_or (slice_get texts n) []

-- A tag by its attributes and its texts: the first is its name, the second its unique name, which is
-- there where its bit is set.
abbrev pub tag_with : ℕ → List (List ℕ) → Tag
tag_with attributes texts = record {
  is_forward = has_bits attributes 0x80;
  is_scoped = has_bits attributes 0x100;
  name = text_at_position texts 0;
  unique_name = if says UniquelyNamed attributes then Some (text_at_position texts 1) else None;
}

-- The tag that a record is. None where it is no leaf of these kinds.
unfoldable pub tag_of : List ℕ → Option Tag
tag_of r =
    if is_ok (leaf_of Types r) && is_tag (kind_of r) then Some (tag_with (attributes_of r) (texts_of r))
    else None
