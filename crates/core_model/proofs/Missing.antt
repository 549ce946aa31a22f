-- What a record of bytes names: each index has 32 bits, and the first that names nothing is past the table's last.
use Rattle.std.proofs.Common.{◌≡◌, ◌≤◌, ◌<◌, ◌^◌, ◌+◌, ℕ, zero, suc, Bool, true, false, cond, ltb, List, [], ◌∷◌, ◌++◌, length, drop, get_or, Option, Some, None, Result, Ok, Err, refl, subst, lit<, arith}
use Rattle.std.specs.Bool.{⊤}
use Rattle.std.proofs.lemmas.Bool.{and_parts, ltb-true, ltb-false}
use Rattle.std.proofs.lemmas.List.{get_or-drop}
use Rattle.std.proofs.lemmas.Option.{same_Some}
use Rattle.leaf_grammar.specs.declared.grammar.Space.{Space}
use Rattle.leaf_grammar.specs.declared.grammar.Element.TheVariants as each
use Rattle.leaf_grammar.specs.declared.grammar.Form.{Form}
use Rattle.leaf_grammar.specs.declared.grammar.Form.TheVariants as form
use Rattle.leaf_grammar.specs.declared.grammar.Part.{Part}
use Rattle.leaf_grammar.specs.declared.grammar.Part.TheVariants.{Always, Where, Attributes}
use Rattle.leaf_grammar.specs.declared.grammar.Rows.{Rows}
use Rattle.leaf_grammar.specs.declared.grammar.Cursor.{Cursor}
use Rattle.leaf_grammar.specs.declared.grammar.Malformed.{Malformed}
use Rattle.leaf_grammar.specs.Kinds.{parts_of, rows_of}
use Rattle.leaf_grammar.specs.Leaf.{size_of, number_at, cursor, parts_end, past, row_at, row_end, kind_of, says}
use Rattle.leaf_grammar.specs.Found.{onwards, found_at, found_in}
use Rattle.index_fields.specs.Fields.{Field, content_fields, count_in, field_at, fields_in, fields_of, missing, missing_among, parts_fields, row_fields, rows_fields, run_from, tail_fields}
use Rattle.table_model.specs.Calls.{are_bytes}

-- each byte is below 256, and so is what stands past the end
byte_at : (r : List ℕ) → are_bytes r ≡ true → (i : ℕ) → get_or r i 0 < 256
byte_at [] is i = lit< tt
byte_at (b ∷ r) is zero = ltb-true b 256 (and_parts (ltb b 256) (are_bytes r) is).0
byte_at (b ∷ r) is (suc i) = byte_at r (and_parts (ltb b 256) (are_bytes r) is).1 i

byte_behind : (r : List ℕ) (at i : ℕ) → are_bytes r ≡ true → get_or (drop at r) i 0 < 256
byte_behind r at i is = rw get_or-drop (byte_at r is (at + i))

small_field : (space : Space) (r : List ℕ) (at : ℕ) → are_bytes r ≡ true → (field_at space r at).value < 2 ^ 32
small_field space r at is = omega (arith, byte_behind r at 0 is, byte_behind r at 1 is, byte_behind r at 2 is, byte_behind r at 3 is)

-- each of these fields has a value of 32 bits
abbrev AreSmall : List Field → Type 0
AreSmall [] = ⊤
AreSmall (f ∷ fields) = (f.value < 2 ^ 32) × AreSmall fields

small_both : (xs ys : List Field) → AreSmall xs → AreSmall ys → AreSmall (xs ++ ys)
small_both [] ys p q = q
small_both (x ∷ xs) ys p q = (p.0, small_both xs ys p.1 q)

small_onwards : {A : Type 0} (first : Result A Malformed) (found : A → List Field) → ((x : A) → AreSmall (found x)) → AreSmall (onwards first found)
small_onwards (Ok x) found p = p x
small_onwards (Err bad) found p = tt

small_run : (space : Space) (r : List ℕ) (at n : ℕ) → are_bytes r ≡ true → AreSmall (run_from space r at n)
small_run space r at zero is = tt
small_run space r at (suc n) is = (small_field space r at is, small_run space r (at + 4) n is)

small_form : (f : Form) (r : List ℕ) (at : ℕ) → are_bytes r ≡ true → AreSmall (fields_in f r at)
unfolding fields_in
small_form (form.Index space) r at is = (small_field space r at is, tt)
small_form (form.Number size) r at is = tt
small_form form.Numeric r at is = tt
small_form form.Text r at is = tt
small_form (form.List width (each.Index space)) r at is = small_run space r (at + size_of width) (number_at width r at) is
small_form (form.List width each.Byte) r at is = tt
small_form (form.List width each.HalfByte) r at is = tt

small_if : (b : Bool) (xs : List Field) → AreSmall xs → AreSmall (cond b xs [])
small_if true xs p = p
small_if false xs p = tt

small_part : (part : Part) (r : List ℕ) (c : Cursor) → are_bytes r ≡ true → AreSmall (found_at fields_in part r c)
unfolding found_at
small_part (Always f) r c is = small_form f r c.at is
small_part (Where condition f) r c is = small_if (says condition c.attributes) (fields_in f r c.at) (small_form f r c.at is)
small_part (Attributes width) r c is = tt

small_parts : (parts : List Part) (r : List ℕ) (c : Cursor) → are_bytes r ≡ true → AreSmall (parts_fields parts r c)
small_parts [] r c is = tt
small_parts (part ∷ parts) r c is =
    small_onwards (past part r c) (λ d. found_at fields_in part r c ++ found_in fields_in parts r d) (λ d. small_both (found_at fields_in part r c) (found_in fields_in parts r d) (small_part part r c is) (small_parts parts r d is))

small_row : (rows : Rows) (r : List ℕ) (at : ℕ) → are_bytes r ≡ true → AreSmall (row_fields rows r at)
small_row rows r at is = small_onwards (row_at rows r at) (λ row. parts_fields row.parts r (cursor row.at 0)) (λ row. small_parts row.parts r (cursor row.at 0) is)

small_rows : (rows : Rows) (n : ℕ) (r : List ℕ) (at : ℕ) → are_bytes r ≡ true → AreSmall (rows_fields rows n r at)
small_rows rows zero r at is = tt
small_rows rows (suc n) r at is =
    let behind : AreSmall (onwards (row_end rows r at) (rows_fields rows n r)) = small_onwards (row_end rows r at) (rows_fields rows n r) (λ end. small_rows rows n r end is) in
    small_if (ltb at (length r)) (row_fields rows r at ++ onwards (row_end rows r at) (rows_fields rows n r)) (small_both (row_fields rows r at) (onwards (row_end rows r at) (rows_fields rows n r)) (small_row rows r at is) behind)

small_tail : (rows : Option Rows) (r : List ℕ) (at : ℕ) → are_bytes r ≡ true → AreSmall (tail_fields rows r at)
small_tail None r at is = tt
small_tail (Some rows) r at is = small_rows rows (length r) r at is

small_content : (parts : Option (List Part)) (rows : Option Rows) (r : List ℕ) → are_bytes r ≡ true → AreSmall (content_fields parts rows r)
small_content None rows r is = tt
small_content (Some parts) rows r is =
    small_both (parts_fields parts r (cursor 4 0)) (onwards (parts_end parts r (cursor 4 0)) (tail_fields rows r)) (small_parts parts r (cursor 4 0) is) (small_onwards (parts_end parts r (cursor 4 0)) (tail_fields rows r) (λ at. small_tail rows r at is))

small_fields : (space : Space) (r : List ℕ) → are_bytes r ≡ true → AreSmall (fields_of space r)
unfolding fields_of
small_fields space r is = small_content (parts_of space (kind_of r)) (rows_of (kind_of r)) r is

-- a missing index: it is past the last of its space, and has 32 bits
pub record IsMissing (types items : ℕ) (f : Space × ℕ) : Type 0 where
  pub past : 4096 + count_in f.0 types items ≤ f.1
  pub small : f.1 < 2 ^ 32

among : (fields : List Field) (types items : ℕ) (f : Space × ℕ) → AreSmall fields → missing_among fields types items ≡ Some f → IsMissing types items f
among [] types items f small e = absurd (grind arith)
among (x ∷ fields) types items f small e = go (ltb x.value (4096 + count_in x.space types items)) refl (among fields types items f small.1) e where
  go : (t : Bool) → ltb x.value (4096 + count_in x.space types items) ≡ t → (missing_among fields types items ≡ Some f → IsMissing types items f) → cond t (missing_among fields types items) (Some (x.space, x.value)) ≡ Some f → IsMissing types items f
  go true is further e = further e
  go false is further e =
      let same : (x.space, x.value) ≡ f = same_Some (x.space, x.value) f e in
      subst (IsMissing types items) same (record { past = ltb-false x.value (4096 + count_in x.space types items) is; small = small.0 })

pub is_missing : (space : Space) (r : List ℕ) (types items : ℕ) (f : Space × ℕ) → are_bytes r ≡ true → missing space r types items ≡ Some f → IsMissing types items f
unfolding missing
is_missing space r types items f is e = among (fields_of space r) types items f (small_fields space r is) e
