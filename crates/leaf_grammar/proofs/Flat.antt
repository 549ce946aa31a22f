-- What is found in a record is found in what stands there, form by form.
use Rattle.std.proofs.Common.{◌≡◌, ℕ, zero, suc, Bool, true, false, cond, ltb, List, [], ◌∷◌, ◌++◌, length, Option, Some, None, Result, Ok, Err, IsOk, refl, ap, sym, ◌∙◌}
use Rattle.std.specs.Prelude.{flat_map}
use Rattle.std.proofs.lemmas.Grind.{flat_map-append}
use Rattle.std.proofs.lemmas.List.{append-nil}
use Rattle.leaf_grammar.specs.declared.grammar.Space.{Space}
use Rattle.leaf_grammar.specs.declared.grammar.Form.{Form}
use Rattle.leaf_grammar.specs.declared.grammar.Part.{Part}
use Rattle.leaf_grammar.specs.declared.grammar.Part.TheVariants.{Always, Where, Attributes}
use Rattle.leaf_grammar.specs.declared.grammar.Rows.{Rows}
use Rattle.leaf_grammar.specs.declared.grammar.Cursor.{Cursor}
use Rattle.leaf_grammar.specs.declared.grammar.Malformed.{Malformed}
use Rattle.leaf_grammar.specs.Kinds.{parts_of, rows_of}
use Rattle.leaf_grammar.specs.Leaf.{cursor, has_length, kind_of, leaf_of, past, parts_end, row_at, row_end, says}
use Rattle.leaf_grammar.specs.Found.{Placed, forms_of, found_at, found_behind, found_in, found_in_content, found_in_row, found_in_rows, onwards, placed}
use Rattle.leaf_grammar.proofs.Rooms.{content_ok}
use Rattle.leaf_grammar.proofs.Standing.{then_case}

-- what is found in one form that stands in a record
abbrev pub in_placed : {B : Type 0} → (Form → List ℕ → ℕ → List B) → List ℕ → Placed → List B
in_placed find r p = find p.form r p.at

onwards_flat : {A B : Type 0} (f : Placed → List B) (first : Result A Malformed) (g : A → List B) (h : A → List Placed) → ((x : A) → g x ≡ flat_map f (h x)) → onwards first g ≡ flat_map f (onwards first h)
onwards_flat f (Ok x) g h e = e x
onwards_flat f (Err bad) g h e = refl

both_flat : {B : Type 0} (f : Placed → List B) (xs ys : List B) (ps qs : List Placed) → xs ≡ flat_map f ps → ys ≡ flat_map f qs → xs ++ ys ≡ flat_map f (ps ++ qs)
both_flat f xs ys ps qs p q = ap (λ z. z ++ ys) p ∙ ap (λ z. flat_map f ps ++ z) q ∙ sym (flat_map-append f ps qs)

if_flat : {B : Type 0} (f : Placed → List B) (b : Bool) (xs : List B) (ps : List Placed) → xs ≡ flat_map f ps → cond b xs [] ≡ flat_map f (cond b ps [])
if_flat f true xs ps e = e
if_flat f false xs ps e = refl

part_flat : {B : Type 0} (find : Form → List ℕ → ℕ → List B) (part : Part) (r : List ℕ) (c : Cursor) → found_at find part r c ≡ flat_map (in_placed find r) (found_at placed part r c)
unfolding found_at
part_flat find (Always form) r c = sym (append-nil (find form r c.at))
part_flat find (Where condition form) r c = if_flat (in_placed find r) (says condition c.attributes) (find form r c.at) (placed form r c.at) (sym (append-nil (find form r c.at)))
part_flat find (Attributes width) r c = refl

pub parts_flat : {B : Type 0} (find : Form → List ℕ → ℕ → List B) (parts : List Part) (r : List ℕ) (c : Cursor) → found_in find parts r c ≡ flat_map (in_placed find r) (found_in placed parts r c)
parts_flat find [] r c = refl
parts_flat find (part ∷ parts) r c =
    onwards_flat (in_placed find r) (past part r c) (λ d. found_at find part r c ++ found_in find parts r d) (λ d. found_at placed part r c ++ found_in placed parts r d)
    (λ d. both_flat (in_placed find r) (found_at find part r c) (found_in find parts r d) (found_at placed part r c) (found_in placed parts r d) (part_flat find part r c) (parts_flat find parts r d))

row_flat : {B : Type 0} (find : Form → List ℕ → ℕ → List B) (rows : Rows) (r : List ℕ) (at : ℕ) → found_in_row find rows r at ≡ flat_map (in_placed find r) (found_in_row placed rows r at)
row_flat find rows r at =
    onwards_flat (in_placed find r) (row_at rows r at) (λ row. found_in find row.parts r (cursor row.at 0)) (λ row. found_in placed row.parts r (cursor row.at 0)) (λ row. parts_flat find row.parts r (cursor row.at 0))

rows_flat : {B : Type 0} (find : Form → List ℕ → ℕ → List B) (rows : Rows) (n : ℕ) (r : List ℕ) (at : ℕ) → found_in_rows find rows n r at ≡ flat_map (in_placed find r) (found_in_rows placed rows n r at)
rows_flat find rows zero r at = refl
rows_flat find rows (suc n) r at =
    let more = onwards_flat (in_placed find r) (row_end rows r at) (found_in_rows find rows n r) (found_in_rows placed rows n r) (λ end. rows_flat find rows n r end) in
    if_flat (in_placed find r) (ltb at (length r)) (found_in_row find rows r at ++ onwards (row_end rows r at) (found_in_rows find rows n r)) (found_in_row placed rows r at ++ onwards (row_end rows r at) (found_in_rows placed rows n r))
    (both_flat (in_placed find r) (found_in_row find rows r at) (onwards (row_end rows r at) (found_in_rows find rows n r)) (found_in_row placed rows r at) (onwards (row_end rows r at) (found_in_rows placed rows n r)) (row_flat find rows r at) more)

behind_flat : {B : Type 0} (find : Form → List ℕ → ℕ → List B) (rows : Option Rows) (r : List ℕ) (at : ℕ) → found_behind find rows r at ≡ flat_map (in_placed find r) (found_behind placed rows r at)
behind_flat find None r at = refl
behind_flat find (Some rows) r at = rows_flat find rows (length r) r at

content_flat : {B : Type 0} (find : Form → List ℕ → ℕ → List B) (parts : Option (List Part)) (rows : Option Rows) (r : List ℕ) → found_in_content find parts rows r ≡ flat_map (in_placed find r) (found_in_content placed parts rows r)
content_flat find None rows r = refl
content_flat find (Some parts) rows r =
    let c = cursor 4 0 in
    both_flat (in_placed find r) (found_in find parts r c) (onwards (parts_end parts r c) (found_behind find rows r)) (found_in placed parts r c) (onwards (parts_end parts r c) (found_behind placed rows r)) (parts_flat find parts r c)
    (onwards_flat (in_placed find r) (parts_end parts r c) (found_behind find rows r) (found_behind placed rows r) (λ at. behind_flat find rows r at))

pub leaf_flat : {B : Type 0} (find : Form → List ℕ → ℕ → List B) (space : Space) (r : List ℕ) → IsOk (leaf_of space r) → found_in_content find (parts_of space (kind_of r)) (rows_of (kind_of r)) r ≡ flat_map (in_placed find r) (forms_of space r)
unfolding forms_of
leaf_flat find space r h =
    let all = found_in_content placed (parts_of space (kind_of r)) (rows_of (kind_of r)) r in
    content_flat find (parts_of space (kind_of r)) (rows_of (kind_of r)) r
    ∙ ap (flat_map (in_placed find r)) (sym (then_case (has_length r) all [] (content_ok space r h).0))
