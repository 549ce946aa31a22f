-- The kinds of records and of members: of which parts the content of each is made, in order.
use Rattle.std.specs.Prelude.{ℕ, ◌==◌, List, [], ◌∷◌, Option, Some, None, if◌then◌else◌}
use Rattle.leaf_grammar.specs.declared.grammar.Space.{Space}
use Rattle.leaf_grammar.specs.declared.grammar.Space.TheVariants.{Types, Items}
use Rattle.leaf_grammar.specs.declared.grammar.Width.TheVariants.{TwoBytes, FourBytes}
use Rattle.leaf_grammar.specs.declared.grammar.Element.TheVariants as each
use Rattle.leaf_grammar.specs.declared.grammar.Form.TheVariants.{Index, Number, Numeric, Text, List as Counted}
use Rattle.leaf_grammar.specs.declared.grammar.Condition.TheVariants.{ToMember, Introducing, UniquelyNamed}
use Rattle.leaf_grammar.specs.declared.grammar.Part.{Part}
use Rattle.leaf_grammar.specs.declared.grammar.Part.TheVariants.{Always, Where, Attributes}
use Rattle.leaf_grammar.specs.declared.grammar.Rows.{Rows}
use Rattle.leaf_grammar.specs.declared.grammar.Rows.TheVariants.{Members, Methods}

-- the index of a type, and of an item
abbrev pub type_index : Part
type_index = Always (Index Types)

abbrev pub item_index : Part
item_index = Always (Index Items)

-- numbers of 1, 2 and 4 bytes
abbrev pub u8 : Part
u8 = Always (Number 1)

abbrev pub u16 : Part
u16 = Always (Number 2)

abbrev pub u32 : Part
u32 = Always (Number 4)

-- attributes of 2 and 4 bytes
abbrev pub flags16 : Part
flags16 = Attributes TwoBytes

abbrev pub flags32 : Part
flags32 = Attributes FourBytes

abbrev pub numeric : Part
numeric = Always Numeric

abbrev pub text : Part
text = Always Text

-- a list behind the number of its elements
abbrev pub types32 : Part
types32 = Always (Counted FourBytes (each.Index Types))

abbrev pub items16 : Part
items16 = Always (Counted TwoBytes (each.Index Items))

abbrev pub items32 : Part
items32 = Always (Counted FourBytes (each.Index Items))

abbrev pub bytes32 : Part
bytes32 = Always (Counted FourBytes each.Byte)

abbrev pub half_bytes16 : Part
half_bytes16 = Always (Counted TwoBytes each.HalfByte)

-- of a pointer to a member: its class, and how it is represented
abbrev pub class_of_member : Part
class_of_member = Where ToMember (Index Types)

abbrev pub representation : Part
representation = Where ToMember (Number 2)

-- of a method that introduces a virtual one: its offset in the virtual table
abbrev pub vtable_offset : Part
vtable_offset = Where Introducing (Number 4)

-- the text that tells a tag from all others
abbrev pub unique_name : Part
unique_name = Where UniquelyNamed Text

-- the parts of a kind of types
abbrev pub parts_of_type : ℕ → Option (List Part)
parts_of_type kind =
    -- LF_VTSHAPE
    if kind == 0x000A then Some (half_bytes16 ∷ [])
    -- LF_MODIFIER
    else if kind == 0x1001 then Some (type_index ∷ u16 ∷ [])
    -- LF_POINTER
    else if kind == 0x1002 then Some (type_index ∷ flags32 ∷ class_of_member ∷ representation ∷ [])
    -- LF_PROCEDURE
    else if kind == 0x1008 then Some (type_index ∷ u8 ∷ u8 ∷ u16 ∷ type_index ∷ [])
    -- LF_MFUNCTION
    else if kind == 0x1009 then Some (type_index ∷ type_index ∷ type_index ∷ u8 ∷ u8 ∷ u16 ∷ type_index ∷ u32 ∷ [])
    -- LF_ARGLIST
    else if kind == 0x1201 then Some (types32 ∷ [])
    -- LF_FIELDLIST: its members alone
    else if kind == 0x1203 then Some []
    -- LF_BITFIELD
    else if kind == 0x1205 then Some (type_index ∷ u8 ∷ u8 ∷ [])
    -- LF_METHODLIST: its methods alone
    else if kind == 0x1206 then Some []
    -- LF_ARRAY
    else if kind == 0x1503 then Some (type_index ∷ type_index ∷ numeric ∷ text ∷ [])
    -- LF_CLASS, LF_STRUCTURE
    else if kind == 0x1504 then Some (u16 ∷ flags16 ∷ type_index ∷ type_index ∷ type_index ∷ numeric ∷ text ∷ unique_name ∷ [])
    else if kind == 0x1505 then Some (u16 ∷ flags16 ∷ type_index ∷ type_index ∷ type_index ∷ numeric ∷ text ∷ unique_name ∷ [])
    -- LF_UNION
    else if kind == 0x1506 then Some (u16 ∷ flags16 ∷ type_index ∷ numeric ∷ text ∷ unique_name ∷ [])
    -- LF_ENUM
    else if kind == 0x1507 then Some (u16 ∷ flags16 ∷ type_index ∷ type_index ∷ text ∷ unique_name ∷ [])
    -- LF_INTERFACE
    else if kind == 0x1519 then Some (u16 ∷ flags16 ∷ type_index ∷ type_index ∷ type_index ∷ numeric ∷ text ∷ unique_name ∷ [])
    -- LF_VFTABLE
    else if kind == 0x151D then Some (type_index ∷ type_index ∷ u32 ∷ bytes32 ∷ [])
    else None

-- the parts of a kind of items
abbrev pub parts_of_item : ℕ → Option (List Part)
parts_of_item kind =
    -- LF_FUNC_ID
    if kind == 0x1601 then Some (item_index ∷ type_index ∷ text ∷ [])
    -- LF_MFUNC_ID
    else if kind == 0x1602 then Some (type_index ∷ type_index ∷ text ∷ [])
    -- LF_BUILDINFO
    else if kind == 0x1603 then Some (items16 ∷ [])
    -- LF_SUBSTR_LIST
    else if kind == 0x1604 then Some (items32 ∷ [])
    -- LF_STRING_ID
    else if kind == 0x1605 then Some (item_index ∷ text ∷ [])
    -- LF_UDT_SRC_LINE
    else if kind == 0x1606 then Some (type_index ∷ item_index ∷ u32 ∷ [])
    -- LF_UDT_MOD_SRC_LINE
    else if kind == 0x1607 then Some (type_index ∷ u32 ∷ u32 ∷ u16 ∷ [])
    else None

-- the parts of a kind of a space
unfoldable pub parts_of : Space → ℕ → Option (List Part)
parts_of Types kind = parts_of_type kind
parts_of Items kind = parts_of_item kind

-- what stands behind the parts of a kind, to the end: members in a field list, methods in a method list
unfoldable pub rows_of : ℕ → Option Rows
rows_of kind =
    if kind == 0x1203 then Some Members
    else if kind == 0x1206 then Some Methods
    else None

-- the parts of a kind of members
unfoldable pub parts_of_member : ℕ → Option (List Part)
parts_of_member kind =
    -- LF_BCLASS
    if kind == 0x1400 then Some (u16 ∷ type_index ∷ numeric ∷ [])
    -- LF_VBCLASS, LF_IVBCLASS
    else if kind == 0x1401 then Some (u16 ∷ type_index ∷ type_index ∷ numeric ∷ numeric ∷ [])
    else if kind == 0x1402 then Some (u16 ∷ type_index ∷ type_index ∷ numeric ∷ numeric ∷ [])
    -- LF_INDEX
    else if kind == 0x1404 then Some (u16 ∷ type_index ∷ [])
    -- LF_VFUNCTAB
    else if kind == 0x1409 then Some (u16 ∷ type_index ∷ [])
    -- LF_ENUMERATE
    else if kind == 0x1502 then Some (u16 ∷ numeric ∷ text ∷ [])
    -- LF_MEMBER
    else if kind == 0x150D then Some (u16 ∷ type_index ∷ numeric ∷ text ∷ [])
    -- LF_STMEMBER
    else if kind == 0x150E then Some (u16 ∷ type_index ∷ text ∷ [])
    -- LF_METHOD
    else if kind == 0x150F then Some (u16 ∷ type_index ∷ text ∷ [])
    -- LF_NESTTYPE
    else if kind == 0x1510 then Some (u16 ∷ type_index ∷ text ∷ [])
    -- LF_ONEMETHOD
    else if kind == 0x1511 then Some (flags16 ∷ type_index ∷ vtable_offset ∷ text ∷ [])
    -- LF_BINTERFACE
    else if kind == 0x151A then Some (u16 ∷ type_index ∷ numeric ∷ [])
    else None

-- the parts of a method of a method list
unfoldable pub method_parts : List Part
method_parts = flags16 ∷ u16 ∷ type_index ∷ vtable_offset ∷ []
