-- The places that a visitor keeps are those of the first two texts.
use Rattle.std.proofs.Common.{◌≡◌, ℕ, Bool, true, false, cond, List, [], ◌∷◌, ◌++◌, Option, Some, None, IsOk, refl, ap, sym, subst, ◌∙◌}
use Rattle.std.specs.Prelude.{flat_map}
use Rattle.leaf_grammar.specs.declared.grammar.Space.TheVariants.{Types}
use Rattle.leaf_grammar.specs.declared.grammar.Form.{Form}
use Rattle.leaf_grammar.specs.declared.grammar.Form.TheVariants as form
use Rattle.leaf_grammar.specs.declared.tag.Texts.{Texts}
use Rattle.leaf_grammar.specs.Leaf.{leaf_of}
use Rattle.leaf_grammar.specs.Found.{Placed, forms_of}
use Rattle.leaf_grammar.specs.Visits.{Visits}
use Rattle.leaf_grammar.specs.Tag.{is_text_form, text_at_position, text_from, texts_in, texts_of}
use Rattle.leaf_grammar.specs.Tags.{HasPlaces, text_where, with_form, with_place}
use Rattle.leaf_grammar.proofs.Flat.{in_placed, leaf_flat}

texts_in-is : (f : Form) (r : List ℕ) (at : ℕ) → texts_in f r at ≡ cond (is_text_form f) (text_from r at ∷ []) []
unfolding texts_in
texts_in-is form.Text r at = refl
texts_in-is (form.Index space) r at = refl
texts_in-is (form.Number size) r at = refl
texts_in-is form.Numeric r at = refl
texts_in-is (form.List width element) r at = refl

abbrev texts_among : List ℕ → List Placed → List (List ℕ)
texts_among r forms = flat_map (in_placed texts_in r) forms

-- the texts of a form, in front of those behind it
one_more : (r : List ℕ) (p : Placed) (forms : List Placed) → texts_among r (p ∷ forms) ≡ cond (is_text_form p.form) (text_from r p.at ∷ []) [] ++ texts_among r forms
one_more r p forms = ap (λ texts. texts ++ texts_among r forms) (texts_in-is p.form r p.at)

abbrev Keeps : List Placed → Texts → Texts → Type 0
Keeps forms before after = Visits (λ v p w. w ≡ with_form v p) forms before after

abbrev places : Option ℕ → Option ℕ → Texts
places first second = record { first = first; second = second }

-- both places are taken
both_kept : (forms : List Placed) (a b : ℕ) (after : Texts) → Keeps forms (places (Some a) (Some b)) after → after ≡ places (Some a) (Some b)
both_kept [] a b after k = sym k
both_kept (p ∷ forms) a b after k = both_kept forms a b after (subst From (k.1 ∙ same (is_text_form p.form)) k.2) where
  From : Texts → Type 0
  From v = Keeps forms v after

  same : (t : Bool) → cond t (with_place (Some a) (Some b) p.at) (places (Some a) (Some b)) ≡ places (Some a) (Some b)
  same true = refl
  same false = refl

abbrev Second : List ℕ → ℕ → Texts → List (List ℕ) → Type 0
Second r a after texts = (after.first ≡ Some a) × (text_where r after.second ≡ text_at_position texts 0)

-- one place is taken
one_kept : (r : List ℕ) (forms : List Placed) (a : ℕ) (after : Texts) → Keeps forms (places (Some a) None) after → Second r a after (texts_among r forms)
one_kept r [] a after k = (ap (λ (v : Texts). v.first) (sym k), ap (λ (v : Texts). text_where r v.second) (sym k))
one_kept r (p ∷ forms) a after k = subst (Second r a after) (sym (one_more r p forms)) (go (is_text_form p.form) k.1 (one_kept r forms a after)) where
  From : Texts → Type 0
  From v = Keeps forms v after

  go : (t : Bool) → k.0 ≡ cond t (with_place (Some a) None p.at) (places (Some a) None) → (Keeps forms (places (Some a) None) after → Second r a after (texts_among r forms)) →
      Second r a after (cond t (text_from r p.at ∷ []) [] ++ texts_among r forms)
  go false e more = more (subst From e k.2)
  go true e more =
      let is = both_kept forms a p.at after (subst From e k.2) in
      (ap (λ (v : Texts). v.first) is, ap (λ (v : Texts). text_where r v.second) is)

none_kept : (r : List ℕ) (forms : List Placed) (after : Texts) → Keeps forms (places None None) after → HasPlaces after r (texts_among r forms)
none_kept r [] after k = record { first = ap (λ (v : Texts). text_where r v.first) (sym k); second = ap (λ (v : Texts). text_where r v.second) (sym k) }
none_kept r (p ∷ forms) after k = subst (HasPlaces after r) (sym (one_more r p forms)) (go (is_text_form p.form) k.1 (none_kept r forms after)) where
  From : Texts → Type 0
  From v = Keeps forms v after

  go : (t : Bool) → k.0 ≡ cond t (with_place None None p.at) (places None None) → (Keeps forms (places None None) after → HasPlaces after r (texts_among r forms)) →
      HasPlaces after r (cond t (text_from r p.at ∷ []) [] ++ texts_among r forms)
  go false e more = more (subst From e k.2)
  go true e more =
      let is = one_kept r forms p.at after (subst From e k.2) in
      record { first = ap (text_where r) is.0; second = is.1 }

-- the places that are kept are those of the first two texts of a leaf
pub leaf_places : (r : List ℕ) (after : Texts) → IsOk (leaf_of Types r) → Keeps (forms_of Types r) (places None None) after → HasPlaces after r (texts_of r)
unfolding texts_of
leaf_places r after h k = subst (HasPlaces after r) (sym (leaf_flat texts_in Types r h)) (none_kept r (forms_of Types r) after k)
