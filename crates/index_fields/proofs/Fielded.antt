-- The index fields of a whole leaf: where they lie, what they hold, and what a change of them leaves.
use Rattle.std.proofs.Common.{◌≡◌, ◌≤◌, ◌<◌, ◌+◌, ◌%◌, ◌&&◌, ℕ, zero, suc, Bool, true, false, cond, eqb, ltb, not, List, [], ◌∷◌, ◌++◌, length, drop, get_or, Option, Some, None, Result, Ok, Err, IsOk, refl, ap, subst, sym, ◌∙◌, arith, length-append}
use Rattle.std.specs.Prelude.{All}
use Rattle.std.specs.List.{AllByRecursion}
use Rattle.std.proofs.lemmas.Bool.{false≢true}
use Rattle.std.proofs.lemmas.List.Elements.{All-from_recursion}
use Rattle.byteorder.specs.Endian.{little_number}
use Rattle.leaf_grammar.specs.declared.grammar.Space.{Space}
use Rattle.leaf_grammar.specs.declared.grammar.Element.TheVariants as each
use Rattle.leaf_grammar.specs.declared.grammar.Form.{Form}
use Rattle.leaf_grammar.specs.declared.grammar.Form.TheVariants as form
use Rattle.leaf_grammar.specs.declared.grammar.Part.{Part}
use Rattle.leaf_grammar.specs.declared.grammar.Part.TheVariants.{Always, Where, Attributes}
use Rattle.leaf_grammar.specs.declared.grammar.Rows.{Rows}
use Rattle.leaf_grammar.specs.declared.grammar.Cursor.{Cursor}
use Rattle.leaf_grammar.specs.declared.grammar.Leaf.{Leaf}
use Rattle.leaf_grammar.specs.declared.grammar.Malformed.{Malformed}
use Rattle.leaf_grammar.specs.Kinds.{parts_of, rows_of}
use Rattle.leaf_grammar.specs.Leaf.{◌>>=◌, content_end, cursor, has_length, kind_of, leaf, leaf_of, number_at, parts_end, past, row_at, row_end, says, size_of, wrong_length}
use Rattle.leaf_grammar.specs.Found.{found_at, found_in, onwards}
use Rattle.leaf_grammar.proofs.Further.{bind_ok}
use Rattle.leaf_grammar.proofs.Rooms.{leaf_room}
use Rattle.leaf_grammar.proofs.Leaves.{leaf_spelled}
use Rattle.index_fields.specs.Fields.{Field, content_fields, field_at, fields_in, fields_of, parts_fields, row_fields, rows_fields, run_from, tail_fields}
use Rattle.index_fields.specs.Places.{LieBetween, SameOutside, places}
use Rattle.index_fields.proofs.Lying.{lie_content, lie_le, lie_to, none_before}
use Rattle.index_fields.proofs.Rewriting.{Agree, content_too, two_too}

-- what holds of the field at each place holds of all fields
both_hold : (P : Field → Type 0) (xs ys : List Field) → AllByRecursion P xs → AllByRecursion P ys → AllByRecursion P (xs ++ ys)
both_hold P [] ys p q = q
both_hold P (x ∷ xs) ys p q = (p.0, both_hold P xs ys p.1 q)

onwards_hold : {A : Type 0} (P : Field → Type 0) (first : Result A Malformed) (found : A → List Field) → ((x : A) → AllByRecursion P (found x)) → AllByRecursion P (onwards first found)
onwards_hold P (Ok x) found p = p x
onwards_hold P (Err bad) found p = tt

if_hold : (P : Field → Type 0) (b : Bool) (xs : List Field) → AllByRecursion P xs → AllByRecursion P (cond b xs [])
if_hold P true xs p = p
if_hold P false xs p = tt

abbrev Everywhere : (Field → Type 0) → List ℕ → Type 0
Everywhere P r = (space : Space) (at : ℕ) → P (field_at space r at)

run_holds : (P : Field → Type 0) (r : List ℕ) → Everywhere P r → (space : Space) (at n : ℕ) → AllByRecursion P (run_from space r at n)
run_holds P r e space at zero = tt
run_holds P r e space at (suc n) = (e space at, run_holds P r e space (at + 4) n)

form_holds : (P : Field → Type 0) (r : List ℕ) → Everywhere P r → (f : Form) (at : ℕ) → AllByRecursion P (fields_in f r at)
unfolding fields_in
form_holds P r e (form.Index space) at = (e space at, tt)
form_holds P r e (form.Number size) at = tt
form_holds P r e form.Numeric at = tt
form_holds P r e form.Text at = tt
form_holds P r e (form.List width (each.Index space)) at = run_holds P r e space (at + size_of width) (number_at width r at)
form_holds P r e (form.List width each.Byte) at = tt
form_holds P r e (form.List width each.HalfByte) at = tt

part_holds : (P : Field → Type 0) (r : List ℕ) → Everywhere P r → (part : Part) (c : Cursor) → AllByRecursion P (found_at fields_in part r c)
unfolding found_at
part_holds P r e (Always f) c = form_holds P r e f c.at
part_holds P r e (Where condition f) c = if_hold P (says condition c.attributes) (fields_in f r c.at) (form_holds P r e f c.at)
part_holds P r e (Attributes width) c = tt

parts_hold : (P : Field → Type 0) (r : List ℕ) → Everywhere P r → (parts : List Part) (c : Cursor) → AllByRecursion P (parts_fields parts r c)
parts_hold P r e [] c = tt
parts_hold P r e (part ∷ parts) c =
    onwards_hold P (past part r c) (λ d. found_at fields_in part r c ++ found_in fields_in parts r d) (λ d. both_hold P (found_at fields_in part r c) (found_in fields_in parts r d) (part_holds P r e part c) (parts_hold P r e parts d))

row_holds : (P : Field → Type 0) (r : List ℕ) → Everywhere P r → (rows : Rows) (at : ℕ) → AllByRecursion P (row_fields rows r at)
row_holds P r e rows at = onwards_hold P (row_at rows r at) (λ row. parts_fields row.parts r (cursor row.at 0)) (λ row. parts_hold P r e row.parts (cursor row.at 0))

rows_hold : (P : Field → Type 0) (r : List ℕ) → Everywhere P r → (rows : Rows) (n at : ℕ) → AllByRecursion P (rows_fields rows n r at)
rows_hold P r e rows zero at = tt
rows_hold P r e rows (suc n) at =
    if_hold P (ltb at (length r)) (row_fields rows r at ++ onwards (row_end rows r at) (rows_fields rows n r))
    (both_hold P (row_fields rows r at) (onwards (row_end rows r at) (rows_fields rows n r)) (row_holds P r e rows at) (onwards_hold P (row_end rows r at) (rows_fields rows n r) (λ end. rows_hold P r e rows n end)))

tail_holds : (P : Field → Type 0) (r : List ℕ) → Everywhere P r → (rows : Option Rows) (at : ℕ) → AllByRecursion P (tail_fields rows r at)
tail_holds P r e None at = tt
tail_holds P r e (Some rows) at = rows_hold P r e rows (length r) at

content_holds : (P : Field → Type 0) (r : List ℕ) → Everywhere P r → (parts : Option (List Part)) (rows : Option Rows) → AllByRecursion P (content_fields parts rows r)
content_holds P r e None rows = tt
content_holds P r e (Some parts) rows =
    both_hold P (parts_fields parts r (cursor 4 0)) (onwards (parts_end parts r (cursor 4 0)) (tail_fields rows r)) (parts_hold P r e parts (cursor 4 0)) (onwards_hold P (parts_end parts r (cursor 4 0)) (tail_fields rows r) (λ at. tail_holds P r e rows at))

pub every_field : (P : Field → Type 0) (space : Space) (r : List ℕ) → Everywhere P r → AllByRecursion P (fields_of space r)
unfolding fields_of
every_field P space r e = content_holds P r e (parts_of space (kind_of r)) (rows_of (kind_of r))

pub values_there : (space : Space) (r : List ℕ) → All (λ f. f.value ≡ little_number 4 (drop f.at r)) (fields_of space r)
values_there space r = All-from_recursion (λ (f : Field). f.value ≡ little_number 4 (drop f.at r)) (fields_of space r) (every_field (λ f. f.value ≡ little_number 4 (drop f.at r)) space r (λ space at. refl))

-- what was read as a leaf
pub record Found (space : Space) (r : List ℕ) (found : Leaf) : Type 0 where
  pub sized : has_length r ≡ true
  pub content : content_end (parts_of space (kind_of r)) (rows_of (kind_of r)) r ≡ Ok found.end
  pub kind : kind_of r ≡ found.kind

leaf_found : (space : Space) (r : List ℕ) (found : Leaf) → leaf_of space r ≡ Ok found → Found space r found
unfolding leaf_of
leaf_found space r found e = go (has_length r) refl e where
  content : Result ℕ Malformed
  content = content_end (parts_of space (kind_of r)) (rows_of (kind_of r)) r

  named : ℕ → Result Leaf Malformed
  named end = Ok (leaf (kind_of r) end)

  go : (b : Bool) → has_length r ≡ b → cond b (content_end (parts_of space (kind_of r)) (rows_of (kind_of r)) r >>= λ end. Ok (leaf (kind_of r) end)) (Err (wrong_length 0)) ≡ Ok found → Found space r found
  go false t e = absurd (cc)
  go true t e =
      let b = bind_ok (content_end (parts_of space (kind_of r)) (rows_of (kind_of r)) r) (λ end. Ok (leaf (kind_of r) end)) found e in
      let same : leaf (kind_of r) b.0 ≡ found = cc in
      record { sized = t; content = b.1 ∙ ap Ok (ap (λ (l : Leaf). l.end) same); kind = ap (λ (l : Leaf). l.kind) same }

found_leaf : (space : Space) (r : List ℕ) (found : Leaf) → Found space r found → leaf_of space r ≡ Ok found
unfolding leaf_of
found_leaf space r found f =
    ap (λ b. cond b (content_end (parts_of space (kind_of r)) (rows_of (kind_of r)) r >>= λ end. Ok (leaf (kind_of r) end)) (Err (wrong_length 0))) f.sized
    ∙ ap (λ z. z >>= λ end. Ok (leaf (kind_of r) end)) f.content ∙ ap (λ k. Ok (leaf k found.end)) f.kind

some_leaf : (space : Space) (r : List ℕ) → (read : Result Leaf Malformed) → leaf_of space r ≡ read → IsOk (leaf_of space r) → (found : Leaf) × (leaf_of space r ≡ Ok found)
some_leaf space r (Ok found) e h = (found, e)
some_leaf space r (Err bad) e h = let P : Result Leaf Malformed → Type 0 = λ z. IsOk z in absurd (false≢true (subst P e h))

end_within : (space : Space) (r : List ℕ) (found : Leaf) → leaf_of space r ≡ Ok found → found.end ≤ length r
end_within space r found e =
    let l = leaf_spelled space r found e in
    let long : length r ≡ length l.size + (length l.kind + (length l.content + length l.rest)) =
    ap length l.whole ∙ length-append l.size (l.kind ++ (l.content ++ l.rest))
    ∙ ap (λ n. length l.size + n) (length-append l.kind (l.content ++ l.rest) ∙ ap (λ n. length l.kind + n) (length-append l.content l.rest)) in
    omega (arith, l.size_len, l.kind_len, l.end_is)

lie_of : (space : Space) (r : List ℕ) (found : Leaf) → Found space r found → LieBetween 4 found.end (fields_of space r)
unfolding fields_of
lie_of space r found f = lie_content (parts_of space (kind_of r)) (rows_of (kind_of r)) r found.end f.content

pub leaf_lies : (space : Space) (r : List ℕ) → IsOk (leaf_of space r) → LieBetween 4 (length r) (fields_of space r)
leaf_lies space r h =
    let l = some_leaf space r (leaf_of space r) refl h in
    lie_to 4 l.0.end (length r) (fields_of space r) (end_within space r l.0 l.1) (lie_of space r l.0 (leaf_found space r l.0 l.1))

lie_within : (from end : ℕ) (fields : List Field) → LieBetween from end fields → AllByRecursion (λ f. f.at + 4 ≤ end) fields
lie_within from end [] l = tt
lie_within from end (f ∷ fields) l = (lie_le (f.at + 4) end fields l.1, lie_within (f.at + 4) end fields l.1)

pub leaf_within : (space : Space) (r : List ℕ) → IsOk (leaf_of space r) → All (λ f. f.at + 4 ≤ length r) (fields_of space r)
leaf_within space r h = All-from_recursion (λ (f : Field). f.at + 4 ≤ length r) (fields_of space r) (lie_within 4 (length r) (fields_of space r) (leaf_lies space r h))

fields_too : (space : Space) (r s : List ℕ) (end : ℕ) → 4 ≤ length r → kind_of s ≡ kind_of r → content_end (parts_of space (kind_of r)) (rows_of (kind_of r)) r ≡ Ok end → Agree r s 4 end (fields_of space r) →
    (content_end (parts_of space (kind_of s)) (rows_of (kind_of s)) s ≡ Ok end) × (places (fields_of space s) ≡ places (fields_of space r))
unfolding fields_of
fields_too space r s end h k e a =
    let t = content_too (parts_of space (kind_of r)) (rows_of (kind_of r)) r s end h e a in (
      ap (λ kind. content_end (parts_of space kind) (rows_of kind) s) k ∙ t.0,
      ap (λ kind. places (content_fields (parts_of space kind) (rows_of kind) s)) k ∙ t.1,
    )

sized_too : (r s : List ℕ) → length s ≡ length r → little_number 2 s ≡ little_number 2 r → has_length s ≡ has_length r
sized_too r s long number =
    ap (λ n. not (ltb n 4) && not (ltb 65536 n) && eqb (n % 4) 0 && eqb (little_number 2 s + 2) n) long
    ∙ ap (λ m. not (ltb (length r) 4) && not (ltb 65536 (length r)) && eqb (length r % 4) 0 && eqb (m + 2) (length r)) number

-- the same leaf, with fields at the same places
changed : (space : Space) (r s : List ℕ) (found : Leaf) → Found space r found → 4 ≤ length r → LieBetween 4 found.end (fields_of space r) → SameOutside (fields_of space r) r s →
    (leaf_of space s ≡ Ok found) × (places (fields_of space s) ≡ places (fields_of space r))
changed space r s found f long lies same =
    let fields = fields_of space r in
    let byte : (k : ℕ) → k < 4 → get_or s k 0 ≡ get_or r k 0 = λ k h. same.same_bytes k (none_before 4 found.end fields k lies h) in
    let number : little_number 2 s ≡ little_number 2 r = two_too r s 0 (byte 0 (omega arith)) (byte 1 (omega arith)) in
    let kind : kind_of s ≡ kind_of r = two_too r s 2 (byte 2 (omega arith)) (byte 3 (omega arith)) in
    let agree : Agree r s 4 found.end fields = record { same_length = same.same_length; same_bytes = λ k low high none. same.same_bytes k none } in
    let t = fields_too space r s found.end long kind f.content agree in
    (found_leaf space s found (record { sized = sized_too r s same.same_length number ∙ f.sized; content = t.0; kind = kind ∙ f.kind }), t.1)

pub leaf_changed : (space : Space) (r s : List ℕ) → IsOk (leaf_of space r) → SameOutside (fields_of space r) r s → (leaf_of space s ≡ leaf_of space r) × (places (fields_of space s) ≡ places (fields_of space r))
leaf_changed space r s h same =
    let l = some_leaf space r (leaf_of space r) refl h in
    let f = leaf_found space r l.0 l.1 in
    let t = changed space r s l.0 f (leaf_room space r h).shortest (lie_of space r l.0 f) same in
    (t.0 ∙ sym l.1, t.1)
