-- Which records are leaves, and where a record that is none is first wrong.
use Rattle.std.specs.Prelude.{ℕ, zero, suc, ◌+◌, ◌-◌, ◌*◌, ◌/◌, ◌%◌, ◌^◌, bit_and, ◌==◌, nat_lt, Bool, ◌&&◌, ◌||◌, not, List, [], ◌∷◌, length, drop, slice_index, Option, Some, None, Result, Ok, Err, if◌then◌else◌}
use Rattle.byteorder.specs.Endian.{little_number}
use Rattle.leaf_words.specs.declared.NumericFault.{NumericFault}
use Rattle.leaf_words.specs.declared.NumericFault.TheVariants.{Short, Unknown}
use Rattle.leaf_words.specs.Words.{numeric_end, end_of_text}
use Rattle.leaf_grammar.specs.declared.grammar.Space.{Space}
use Rattle.leaf_grammar.specs.declared.grammar.Width.{Width}
use Rattle.leaf_grammar.specs.declared.grammar.Width.TheVariants.{TwoBytes, FourBytes}
use Rattle.leaf_grammar.specs.declared.grammar.Element.{Element}
use Rattle.leaf_grammar.specs.declared.grammar.Element.TheVariants as each
use Rattle.leaf_grammar.specs.declared.grammar.Form.{Form}
use Rattle.leaf_grammar.specs.declared.grammar.Form.TheVariants as form
use Rattle.leaf_grammar.specs.declared.grammar.Condition.{Condition}
use Rattle.leaf_grammar.specs.declared.grammar.Condition.TheVariants.{ToMember, Introducing, UniquelyNamed}
use Rattle.leaf_grammar.specs.declared.grammar.Part.{Part}
use Rattle.leaf_grammar.specs.declared.grammar.Part.TheVariants.{Always, Where, Attributes}
use Rattle.leaf_grammar.specs.declared.grammar.Rows.{Rows}
use Rattle.leaf_grammar.specs.declared.grammar.Rows.TheVariants.{Members, Methods}
use Rattle.leaf_grammar.specs.declared.grammar.Cursor.{Cursor}
use Rattle.leaf_grammar.specs.declared.grammar.Leaf.{Leaf}
use Rattle.leaf_grammar.specs.declared.grammar.Malformed.{Malformed}
use Rattle.leaf_grammar.specs.Kinds.{parts_of, rows_of, parts_of_member, method_parts}

-- what can be wrong with a record, as the refusal's second number says it
abbrev pub wrong_length : ℕ → Malformed
wrong_length at = record { at = at; what = 1 }

abbrev pub wrong_kind : ℕ → Malformed
wrong_kind at = record { at = at; what = 2 }

abbrev pub too_short : ℕ → Malformed
too_short at = record { at = at; what = 3 }

abbrev pub unknown_numeric : ℕ → Malformed
unknown_numeric at = record { at = at; what = 4 }

abbrev pub open_text : ℕ → Malformed
open_text at = record { at = at; what = 5 }

abbrev pub wrong_member : ℕ → Malformed
wrong_member at = record { at = at; what = 6 }

abbrev pub long_rest : ℕ → Malformed
long_rest at = record { at = at; what = 7 }

-- what comes first decides: the first fault, or what stands behind
infixl 10 ◌>>=◌
abbrev pub ◌>>=◌ : {A B : Type 0} → Result A Malformed → (A → Result B Malformed) → Result B Malformed
(Ok x) >>= f = f x
(Err bad) >>= f = Err bad

-- the number of a width that stands at a place
abbrev pub size_of : Width → ℕ
size_of TwoBytes = 2
size_of FourBytes = 4

abbrev pub number_at : Width → List ℕ → ℕ → ℕ
number_at width r at = little_number (size_of width) (drop at r)

-- the place so many bytes on, where the record has them
abbrev pub bytes_on : ℕ → List ℕ → ℕ → Result ℕ Malformed
bytes_on n r at = if nat_lt (length r) (at + n) then Err (too_short at) else Ok (at + n)

-- The place behind a numeric leaf. It is short at its first two bytes, or at those behind them.
abbrev pub behind_numeric : List ℕ → ℕ → Result ℕ NumericFault → Result ℕ Malformed
behind_numeric r at (Ok end) = Ok end
behind_numeric r at (Err Unknown) = Err (unknown_numeric at)
behind_numeric r at (Err Short) = Err (too_short (if nat_lt (length r) (at + 2) then at else at + 2))

abbrev pub behind_text : ℕ → Option ℕ → Result ℕ Malformed
behind_text at None = Err (open_text at)
behind_text at (Some end) = Ok end

-- how many bytes so many elements have
abbrev pub elements_size : Element → ℕ → ℕ
elements_size (each.Index space) n = 4 * n
elements_size each.Byte n = n
elements_size each.HalfByte n = (n + 1) / 2

-- the place behind what stands at a place, or what is wrong there
unfoldable pub form_end : Form → List ℕ → ℕ → Result ℕ Malformed
form_end (form.Index space) r at = bytes_on 4 r at
form_end (form.Number size) r at = bytes_on size r at
form_end form.Numeric r at = behind_numeric r at (numeric_end r at)
form_end form.Text r at = behind_text at (end_of_text r at)
form_end (form.List width element) r at =
    bytes_on (size_of width) r at >>= bytes_on (elements_size element (number_at width r at)) r

-- whether one of the bits of a mask is set, and the three bits from one on, as a number
abbrev pub has_bits : ℕ → ℕ → Bool
has_bits attributes mask = not (bit_and attributes mask == 0)

abbrev pub three_bits : ℕ → ℕ → ℕ
three_bits attributes from = bit_and (attributes / 2 ^ from) 7

-- What attributes say. Bits 5 to 7 of a pointer's are 2 in one to a data member and 3 in one to a
-- member function. Bits 2 to 4 of a method's are 4 in one that introduces a virtual one and 6 in one
-- that introduces a pure one. Bit 9 of a tag's tells that it has a unique name.
abbrev pub says : Condition → ℕ → Bool
says ToMember attributes = (three_bits attributes 5 == 2) || (three_bits attributes 5 == 3)
says Introducing attributes = (three_bits attributes 2 == 4) || (three_bits attributes 2 == 6)
says UniquelyNamed attributes = has_bits attributes 0x200

abbrev pub cursor : ℕ → ℕ → Cursor
cursor at attributes = record { at = at; attributes = attributes }

-- the cursor at a new place, with the attributes that it has
abbrev pub behind_form : Cursor → Result ℕ Malformed → Result Cursor Malformed
behind_form c end = end >>= λ at. Ok (cursor at c.attributes)

-- the cursor behind a part, or what is wrong in the part
unfoldable pub past : Part → List ℕ → Cursor → Result Cursor Malformed
past (Always form) r c = behind_form c (form_end form r c.at)
past (Where condition form) r c = if says condition c.attributes then behind_form c (form_end form r c.at) else Ok c
past (Attributes width) r c = bytes_on (size_of width) r c.at >>= λ at. Ok (cursor at (number_at width r c.at))

-- the place behind the parts that stand from a cursor on, or the first fault
abbrev pub parts_end : List Part → List ℕ → Cursor → Result ℕ Malformed
parts_end [] r c = Ok c.at
parts_end (part ∷ parts) r c = past part r c >>= parts_end parts r

-- parts from a place on
pub record Row : Type 0 where
  pub parts : List Part
  pub at : ℕ

abbrev pub row : List Part → ℕ → Row
row parts at = record { parts = parts; at = at }

-- a member's parts stand behind its kind
abbrev pub member_row : Option (List Part) → ℕ → Result Row Malformed
member_row None at = Err (wrong_member at)
member_row (Some parts) at = Ok (row parts (at + 2))

-- A byte from F0 on is a pad. Its low four bits tell its bytes, itself counted, which are at least one.
abbrev pub pad_row : List ℕ → ℕ → ℕ → Result Row Malformed
pad_row r at n = if n == 0 then Err (wrong_member at) else bytes_on n r at >>= λ end. Ok (row [] end)

-- what stands at a place among the members or the methods
unfoldable pub row_at : Rows → List ℕ → ℕ → Result Row Malformed
row_at Methods r at = Ok (row method_parts at)
row_at Members r at =
    if nat_lt (slice_index r at) 0xF0 then (bytes_on 2 r at >>= λ end. member_row (parts_of_member (number_at TwoBytes r at)) at)
    else pad_row r at (slice_index r at - 0xF0)

-- the place behind the row that stands at a place
abbrev pub row_end : Rows → List ℕ → ℕ → Result ℕ Malformed
row_end rows r at = row_at rows r at >>= λ row. parts_end row.parts r (cursor row.at 0)

-- The place behind the rows that stand from a place to the end, or the first fault. A row has at least
-- one byte, so there are at most as many as bytes.
abbrev pub rows_end : Rows → ℕ → List ℕ → ℕ → Result ℕ Malformed
rows_end rows zero r at = Ok at
rows_end rows (suc n) r at = if nat_lt at (length r) then row_end rows r at >>= rows_end rows n r else Ok at

-- What stands behind the parts: rows to the end, or at most 3 bytes.
abbrev pub tail_end : Option Rows → List ℕ → ℕ → Result ℕ Malformed
tail_end None r at = if nat_lt (at + 3) (length r) then Err (long_rest at) else Ok at
tail_end (Some rows) r at = rows_end rows (length r) r at

-- the place behind the content, which stands behind the length and the kind
abbrev pub content_end : Option (List Part) → Option Rows → List ℕ → Result ℕ Malformed
content_end None rows r = Err (wrong_kind 2)
content_end (Some parts) rows r = parts_end parts r (cursor 4 0) >>= tail_end rows r

-- the kind of a record
abbrev pub kind_of : List ℕ → ℕ
kind_of r = little_number 2 (drop 2 r)

-- 4 to 65,536 bytes, a multiple of 4, of which the first two are the length less 2
abbrev pub has_length : List ℕ → Bool
has_length r = not (nat_lt (length r) 4) && not (nat_lt 65536 (length r)) && (length r % 4 == 0) && (little_number 2 r + 2 == length r)

abbrev pub leaf : ℕ → ℕ → Leaf
leaf kind end = record { kind = kind; end = end }

-- The leaf that a record of a space is, by its kind and the place behind its content, or the first fault
-- from left to right.
unfoldable pub leaf_of : Space → List ℕ → Result Leaf Malformed
leaf_of space r =
    if has_length r then (content_end (parts_of space (kind_of r)) (rows_of (kind_of r)) r >>= λ end. Ok (leaf (kind_of r) end))
    else Err (wrong_length 0)
