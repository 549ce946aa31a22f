-- The index fields of a leaf, and the first that names nothing.
use Rattle.std.specs.Prelude.{ℕ, zero, suc, ◌+◌, nat_lt, List, [], ◌∷◌, drop, Option, Some, None, if◌then◌else◌}
use Rattle.byteorder.specs.Endian.{little_number}
use Rattle.leaf_grammar.specs.declared.grammar.Space.{Space}
use Rattle.leaf_grammar.specs.declared.grammar.Space.TheVariants.{Types, Items}
use Rattle.leaf_grammar.specs.declared.grammar.Element.TheVariants as each
use Rattle.leaf_grammar.specs.declared.grammar.Form.{Form}
use Rattle.leaf_grammar.specs.declared.grammar.Form.TheVariants as form
use Rattle.leaf_grammar.specs.declared.grammar.Part.{Part}
use Rattle.leaf_grammar.specs.declared.grammar.Rows.{Rows}
use Rattle.leaf_grammar.specs.declared.grammar.Cursor.{Cursor}
use Rattle.leaf_grammar.specs.Kinds.{parts_of, rows_of}
use Rattle.leaf_grammar.specs.Leaf.{size_of, number_at, kind_of}
use Rattle.leaf_grammar.specs.Found.{found_behind, found_in, found_in_content, found_in_row, found_in_rows}

-- an index field: the space that it names, its offset from the record's first byte, its value
pub record Field : Type 0 where
  pub space : Space
  pub at : ℕ
  pub value : ℕ

abbrev pub field_at : Space → List ℕ → ℕ → Field
field_at space r at = record { space = space; at = at; value = little_number 4 (drop at r) }

-- so many indices from a place on
abbrev pub run_from : Space → List ℕ → ℕ → ℕ → List Field
run_from space r at zero = []
run_from space r at (suc n) = field_at space r at ∷ run_from space r (at + 4) n

-- the index fields of what stands at a place: an index, or each item of a list of indices
unfoldable pub fields_in : Form → List ℕ → ℕ → List Field
fields_in (form.Index space) r at = field_at space r at ∷ []
fields_in (form.Number size) r at = []
fields_in form.Numeric r at = []
fields_in form.Text r at = []
fields_in (form.List width (each.Index space)) r at = run_from space r (at + size_of width) (number_at width r at)
fields_in (form.List width each.Byte) r at = []
fields_in (form.List width each.HalfByte) r at = []

-- the index fields of the parts that stand from a cursor on, from left to right
abbrev pub parts_fields : List Part → List ℕ → Cursor → List Field
parts_fields parts r c = found_in fields_in parts r c

-- the index fields of the member or method that stands at a place
abbrev pub row_fields : Rows → List ℕ → ℕ → List Field
row_fields rows r at = found_in_row fields_in rows r at

-- the index fields of the rows that stand from a place to the end, of which there are at most so many
abbrev pub rows_fields : Rows → ℕ → List ℕ → ℕ → List Field
rows_fields rows n r at = found_in_rows fields_in rows n r at

abbrev pub tail_fields : Option Rows → List ℕ → ℕ → List Field
tail_fields rows r at = found_behind fields_in rows r at

abbrev pub content_fields : Option (List Part) → Option Rows → List ℕ → List Field
content_fields parts rows r = found_in_content fields_in parts rows r

-- the index fields of a leaf, from left to right
unfoldable pub fields_of : Space → List ℕ → List Field
fields_of space r = content_fields (parts_of space (kind_of r)) (rows_of (kind_of r)) r

-- how many records a space has
abbrev pub count_in : Space → ℕ → ℕ → ℕ
count_in Types types items = types
count_in Items types items = items

-- the first of these fields that is no simple index and names no record
abbrev pub missing_among : List Field → ℕ → ℕ → Option (Space × ℕ)
missing_among [] types items = None
missing_among (f ∷ fields) types items =
    if nat_lt f.value (4096 + count_in f.space types items) then missing_among fields types items else Some (f.space, f.value)

-- the first index field of a leaf that names nothing, where there are so many types and items
unfoldable pub missing : Space → List ℕ → ℕ → ℕ → Option (Space × ℕ)
missing space r types items = missing_among (fields_of space r) types items
