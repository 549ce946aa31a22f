-- What a visitor that keeps the first missing field holds behind all fields.
use Rattle.std.proofs.Common.{◌≡◌, ◌+◌, ℕ, Bool, true, false, cond, ltb, List, [], ◌∷◌, Option, Some, None, refl, ap, ◌∙◌, sym}
use Rattle.leaf_grammar.specs.declared.grammar.Space.{Space}
use Rattle.index_fields.specs.declared.missing.Seen.{Seen}
use Rattle.index_fields.specs.Fields.{Field, missing_among, count_in}
use Rattle.leaf_grammar.specs.Visits.{Visits}
use Rattle.index_fields.specs.Seen.{first_of, seen_with}

first_of-None : (m : Option (Space × ℕ)) → first_of m None ≡ m
first_of-None None = refl
first_of-None (Some x) = refl

first_else : (b : Bool) (x : Space × ℕ) (rest : Option (Space × ℕ)) → first_of (cond b None (Some x)) rest ≡ cond b rest (Some x)
first_else true x rest = refl
first_else false x rest = refl

-- one more field in front
first_of-one : (m : Option (Space × ℕ)) (f : Field) (fields : List Field) (types items : ℕ) →
    first_of (first_of m (missing_among (f ∷ []) types items)) (missing_among fields types items) ≡ first_of m (missing_among (f ∷ fields) types items)
first_of-one None f fields types items =
    first_else (ltb f.value (4096 + count_in f.space types items)) (f.space, f.value) (missing_among fields types items)
first_of-one (Some x) f fields types items = refl

pub missing_seen : (fields : List Field) (before after : Seen) → Visits (λ v f w. w ≡ seen_with v f) fields before after →
    after.missing ≡ first_of before.missing (missing_among fields before.types before.items)
missing_seen [] before after v = sym (ap (λ (s : Seen). s.missing) v) ∙ sym (first_of-None before.missing)
missing_seen (f ∷ fields) before after v =
    missing_seen fields v.0 after v.2
    ∙ ap (λ (s : Seen). first_of s.missing (missing_among fields s.types s.items)) v.1
    ∙ first_of-one before.missing f fields before.types before.items
