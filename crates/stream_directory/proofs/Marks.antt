-- Blocks that are marked as used, one after the other.
use Rattle.std.proofs.Common.{◌≡◌, ◌≢◌, ◌≤◌, ◌<◌, ◌+◌, ◌||◌, ℕ, Bool, true, false, List, [], ◌∷◌, ◌++◌, Option, Some, None, length, get_or, take, drop, refl, sym, ap, ◌∙◌, inl, inr, eqb}
use Rattle.std.specs.List.{list_any}
use Rattle.std.specs.Option.{option_or}
use Rattle.std.proofs.lemmas.Bool.{cases_eq, eq-eqb, ne_eqb}
use Rattle.std.proofs.lemmas.List.{append_assoc, drop_all, drop_more, take_more}
use Rattle.std.proofs.lemmas.List.Folds.{list_any-append}
use Rattle.msf_blocks.specs.declared.superblock.Super.{Super}
use Rattle.msf_blocks.specs.Bits.{has_bit}
use Rattle.stream_directory.specs.Reading.{block_damage, first_bad}

-- a block more is marked
pub marked_more : (bits new xs : List ℕ) (b : ℕ) → ((k : ℕ) → has_bit bits k ≡ list_any (λ x. eqb x k) xs) → has_bit new b ≡ true → ((k : ℕ) → k ≢ b → has_bit new k ≡ has_bit bits k)
    → (k : ℕ) → has_bit new k ≡ list_any (λ x. eqb x k) (xs ++ b ∷ [])
marked_more bits new xs b marked set others k =
    elim (cases_eq k b) [
      | inl e ↦ ap (has_bit new) e ∙ set ∙ sym (list_any-append (λ x. eqb x k) xs (b ∷ []) ∙ ap (λ t. list_any (λ x. eqb x k) xs || (t || false)) (eq-eqb b k (sym e)) ∙ or_true (list_any (λ x. eqb x k) xs))
      | inr ne ↦ others k ne ∙ marked k ∙ sym (list_any-append (λ x. eqb x k) xs (b ∷ []) ∙ ap (λ t. list_any (λ x. eqb x k) xs || (t || false)) (ne_eqb b k (λ e. ne (sym e))) ∙ or_false (list_any (λ x. eqb x k) xs))
    ]
  where
    or_true : (t : Bool) → (t || true) ≡ true
    or_true true = refl
    or_true false = refl

    or_false : (t : Bool) → (t || false) ≡ t
    or_false true = refl
    or_false false = refl

-- the blocks so far, and one more
pub so_far : (earlier blocks : List ℕ) (i : ℕ) → i < length blocks → earlier ++ take (i + 1) blocks ≡ (earlier ++ take i blocks) ++ get_or blocks i 0 ∷ []
so_far earlier blocks i lt = ap (λ xs. earlier ++ xs) (take_more blocks i 0 lt) ∙ sym (append_assoc earlier (take i blocks) (get_or blocks i 0 ∷ []))

-- the first damage, one block on
pub first_bad-more : (s : Super) (earlier blocks : List ℕ) (i : ℕ) (is_used : Bool) → i < length blocks → is_used ≡ list_any (λ x. eqb x (get_or blocks i 0)) (earlier ++ take i blocks)
    → first_bad s (earlier ++ take i blocks) (drop i blocks) ≡ option_or (block_damage s is_used (get_or blocks i 0)) (first_bad s (earlier ++ take (i + 1) blocks) (drop (i + 1) blocks))
unfolding first_bad
first_bad-more s earlier blocks i is_used lt is =
    ap (first_bad s (earlier ++ take i blocks)) (drop_more blocks i 0 lt)
    ∙ ap (λ t. option_or (block_damage s t (get_or blocks i 0)) (first_bad s ((earlier ++ take i blocks) ++ get_or blocks i 0 ∷ []) (drop (i + 1) blocks))) (sym is)
    ∙ ap (λ xs. option_or (block_damage s is_used (get_or blocks i 0)) (first_bad s xs (drop (i + 1) blocks))) (sym (so_far earlier blocks i lt))

pub first_bad-end : (s : Super) (earlier blocks : List ℕ) (i : ℕ) → length blocks ≤ i → first_bad s earlier (drop i blocks) ≡ None
unfolding first_bad
first_bad-end s earlier blocks i le = ap (first_bad s earlier) (drop_all i blocks le)

pub None-since : {A : Type 0} (o : Option A) → ((x : A) → o ≡ Some x → ⊥) → o ≡ None
None-since None h = refl
None-since (Some x) h = absurd (h x refl)
