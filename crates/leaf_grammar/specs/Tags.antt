-- A tag as the code returns it, and the places of its texts.
use Rattle.std.specs.Prelude.{◌≡◌, ℕ, List, [], Option, Some, None, MatchOption, if◌then◌else◌}
use Rattle.std.specs.Option.{option_copied}
use Rattle.leaf_grammar.specs.declared.tag.Tag.{Tag}
use Rattle.leaf_grammar.specs.declared.tag.Texts.{Texts}
use Rattle.leaf_grammar.specs.Found.{Placed}
use Rattle.leaf_grammar.specs.Tag.{is_text_form, text_at_position, text_from}
use Rattle.leaf_grammar.specs.Tag as tag

-- the tag that was returned, without where its texts lie in memory
abbrev pub tag_in : Tag → tag.Tag
tag_in got = record {
  is_forward = got.is_forward;
  is_scoped = got.is_scoped;
  name = got.name.now;
  unique_name = option_copied got.unique_name;
}

-- what was returned is this tag, or none
abbrev pub GivesTag : Option Tag → Option tag.Tag → Type 0
GivesTag result tag = MatchOption result (tag ≡ None) (λ got. tag ≡ Some (tag_in got))

-- the text at a place, or no bytes
abbrev pub text_where : List ℕ → Option ℕ → List ℕ
text_where r None = []
text_where r (Some at) = text_from r at

-- two places with one more: the first that is free takes it
abbrev pub with_place : Option ℕ → Option ℕ → ℕ → Texts
with_place None second at = record { first = Some at; second = second }
with_place (Some first) None at = record { first = Some first; second = Some at }
with_place (Some first) (Some second) at = record { first = Some first; second = Some second }

-- the places behind one more form
abbrev pub with_form : Texts → Placed → Texts
with_form texts p = if is_text_form p.form then with_place texts.first texts.second p.at else texts

-- the places are those of the first two of these texts
pub record HasPlaces (places : Texts) (r : List ℕ) (texts : List (List ℕ)) : Type 0 where
  pub first : text_where r places.first ≡ text_at_position texts 0
  pub second : text_where r places.second ≡ text_at_position texts 1
