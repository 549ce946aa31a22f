-- What is looked for in a record, from left to right: what stands there, its index fields, its texts.
use Rattle.std.specs.Prelude.{ℕ, zero, suc, nat_lt, List, [], ◌∷◌, ◌++◌, length, Option, Some, None, Result, Ok, Err, if◌then◌else◌}
use Rattle.leaf_grammar.specs.declared.grammar.Space.{Space}
use Rattle.leaf_grammar.specs.declared.grammar.Form.{Form}
use Rattle.leaf_grammar.specs.declared.grammar.Part.{Part}
use Rattle.leaf_grammar.specs.declared.grammar.Part.TheVariants.{Always, Where, Attributes}
use Rattle.leaf_grammar.specs.declared.grammar.Rows.{Rows}
use Rattle.leaf_grammar.specs.declared.grammar.Cursor.{Cursor}
use Rattle.leaf_grammar.specs.declared.grammar.Malformed.{Malformed}
use Rattle.leaf_grammar.specs.Kinds.{parts_of, rows_of}
use Rattle.leaf_grammar.specs.Leaf.{cursor, has_length, kind_of, parts_end, past, row_at, row_end, says}

-- what is found from here on. Behind a fault nothing is found; a leaf has none.
abbrev pub onwards : {A B : Type 0} → Result A Malformed → (A → List B) → List B
onwards (Ok x) found = found x
onwards (Err bad) found = []

-- what is found in a part, where it stands
unfoldable pub found_at : {B : Type 0} → (Form → List ℕ → ℕ → List B) → Part → List ℕ → Cursor → List B
found_at find (Always form) r c = find form r c.at
found_at find (Where condition form) r c = if says condition c.attributes then find form r c.at else []
found_at find (Attributes width) r c = []

-- what is found in the parts that stand from a cursor on
abbrev pub found_in : {B : Type 0} → (Form → List ℕ → ℕ → List B) → List Part → List ℕ → Cursor → List B
found_in find [] r c = []
found_in find (part ∷ parts) r c = onwards (past part r c) (λ d. found_at find part r c ++ found_in find parts r d)

-- what is found in the member or method that stands at a place
abbrev pub found_in_row : {B : Type 0} → (Form → List ℕ → ℕ → List B) → Rows → List ℕ → ℕ → List B
found_in_row find rows r at = onwards (row_at rows r at) (λ row. found_in find row.parts r (cursor row.at 0))

-- what is found in the rows that stand from a place to the end, of which there are at most so many
abbrev pub found_in_rows : {B : Type 0} → (Form → List ℕ → ℕ → List B) → Rows → ℕ → List ℕ → ℕ → List B
found_in_rows find rows zero r at = []
found_in_rows find rows (suc n) r at =
    if nat_lt at (length r) then found_in_row find rows r at ++ onwards (row_end rows r at) (found_in_rows find rows n r) else []

abbrev pub found_behind : {B : Type 0} → (Form → List ℕ → ℕ → List B) → Option Rows → List ℕ → ℕ → List B
found_behind find None r at = []
found_behind find (Some rows) r at = found_in_rows find rows (length r) r at

abbrev pub found_in_content : {B : Type 0} → (Form → List ℕ → ℕ → List B) → Option (List Part) → Option Rows → List ℕ → List B
found_in_content find None rows r = []
found_in_content find (Some parts) rows r =
    found_in find parts r (cursor 4 0) ++ onwards (parts_end parts r (cursor 4 0)) (found_behind find rows r)

-- a form and the place where it stands
pub record Placed : Type 0 where
  pub form : Form
  pub at : ℕ

abbrev pub placed : Form → List ℕ → ℕ → List Placed
placed form r at = record { form = form; at = at } ∷ []

-- what stands in a record of a space, as far as it is read. Of a record of another length than it says
-- nothing is.
unfoldable pub forms_of : Space → List ℕ → List Placed
forms_of space r = if has_length r then found_in_content placed (parts_of space (kind_of r)) (rows_of (kind_of r)) r else []
