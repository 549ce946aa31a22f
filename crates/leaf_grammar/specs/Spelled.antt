-- A leaf in the format's own words: its length, its kind, spellings of the kind's parts in order, and a rest.
use Rattle.std.specs.Prelude.{◌≡◌, ◌≢◌, ◌≤◌, ◌<◌, ◌⊎◌, ℕ, ◌+◌, ◌%◌, List, [], ◌∷◌, ◌++◌, length, slice_index, Option, Some, None, MatchBool, EachIndex}
use Rattle.byteorder.specs.Endian.{little_number}
use Rattle.leaf_words.specs.Words.{tail_size}
use Rattle.leaf_grammar.specs.declared.grammar.Space.{Space}
use Rattle.leaf_grammar.specs.declared.grammar.Width.{Width}
use Rattle.leaf_grammar.specs.declared.grammar.Element.{Element}
use Rattle.leaf_grammar.specs.declared.grammar.Form.{Form}
use Rattle.leaf_grammar.specs.declared.grammar.Form.TheVariants as form
use Rattle.leaf_grammar.specs.declared.grammar.Part.{Part}
use Rattle.leaf_grammar.specs.declared.grammar.Part.TheVariants.{Always, Where, Attributes}
use Rattle.leaf_grammar.specs.declared.grammar.Rows.{Rows}
use Rattle.leaf_grammar.specs.declared.grammar.Rows.TheVariants.{Members, Methods}
use Rattle.leaf_grammar.specs.declared.grammar.Leaf.{Leaf}
use Rattle.leaf_grammar.specs.Kinds.{method_parts, parts_of, parts_of_member, rows_of}
use Rattle.leaf_grammar.specs.Leaf.{elements_size, says, size_of}

-- a numeric leaf: two bytes, and as many more as they say
pub record SpellsNumeric (bytes : List ℕ) : Type 0 where
  pub head : List ℕ
  pub tail : List ℕ
  pub whole : bytes ≡ head ++ tail
  pub head_len : length head ≡ 2
  pub tail_len : tail_size (little_number 2 head) ≡ Some (length tail)

-- a text: bytes of which none is a NUL, and a NUL
pub record SpellsText (bytes : List ℕ) : Type 0 where
  pub text : List ℕ
  pub whole : bytes ≡ text ++ 0 ∷ []
  pub no_nul : EachIndex text (λ k. slice_index text k ≢ 0)

-- a list: a number, and the bytes of so many elements
pub record SpellsList (width : Width) (element : Element) (bytes : List ℕ) : Type 0 where
  pub count : List ℕ
  pub elements : List ℕ
  pub whole : bytes ≡ count ++ elements
  pub count_len : length count ≡ size_of width
  pub elements_len : length elements ≡ elements_size element (little_number (size_of width) count)

abbrev pub SpellsForm : Form → List ℕ → Type 0
SpellsForm (form.Index space) bytes = length bytes ≡ 4
SpellsForm (form.Number size) bytes = length bytes ≡ size
SpellsForm form.Numeric bytes = SpellsNumeric bytes
SpellsForm form.Text bytes = SpellsText bytes
SpellsForm (form.List width element) bytes = SpellsList width element bytes

-- a part, behind such attributes. One that they do not ask for has no bytes.
abbrev pub SpellsPart : Part → ℕ → List ℕ → Type 0
SpellsPart (Always form) attributes bytes = SpellsForm form bytes
SpellsPart (Where condition form) attributes bytes =
    MatchBool (says condition attributes) (SpellsForm form bytes) (bytes ≡ [])
SpellsPart (Attributes width) attributes bytes = length bytes ≡ size_of width

-- the attributes behind a part that is spelled so, where these stand before it
abbrev pub attributes_behind : Part → List ℕ → ℕ → ℕ
attributes_behind (Always form) bytes attributes = attributes
attributes_behind (Where condition form) bytes attributes = attributes
attributes_behind (Attributes width) bytes attributes = little_number (size_of width) bytes

-- parts in order, behind such attributes
abbrev pub SpellsParts : List Part → ℕ → List ℕ → Type 0
SpellsParts [] attributes bytes = bytes ≡ []
SpellsParts (part ∷ parts) attributes bytes =
    (first : List ℕ) × (rest : List ℕ) × (bytes ≡ first ++ rest) × SpellsPart part attributes first
    × SpellsParts parts (attributes_behind part first attributes) rest

-- a member: its kind, whose first byte is below F0, and the parts of that kind
pub record SpellsMember (bytes : List ℕ) : Type 0 where
  pub kind : List ℕ
  pub content : List ℕ
  pub parts : List Part
  pub whole : bytes ≡ kind ++ content
  pub kind_len : length kind ≡ 2
  pub no_pad : slice_index kind 0 < 0xF0
  pub known : parts_of_member (little_number 2 kind) ≡ Some parts
  pub content_is : SpellsParts parts 0 content

-- a pad: its first byte is F0 and the number of its bytes
abbrev pub SpellsPad : List ℕ → Type 0
SpellsPad bytes = (0 < length bytes) × (slice_index bytes 0 ≡ 0xF0 + length bytes)

-- a member or a pad of a field list, a method of a method list
abbrev pub SpellsRow : Rows → List ℕ → Type 0
SpellsRow Members bytes = SpellsMember bytes ⊎ SpellsPad bytes
SpellsRow Methods bytes = SpellsParts method_parts 0 bytes

-- these rows, one behind another
abbrev pub AreRows : Rows → List (List ℕ) → List ℕ → Type 0
AreRows rows [] bytes = bytes ≡ []
AreRows rows (row ∷ more) bytes =
    (rest : List ℕ) × (bytes ≡ row ++ rest) × SpellsRow rows row × AreRows rows more rest

-- a content: the parts of its kind, and in a field list and a method list rows behind them
abbrev pub SpellsContent : List Part → Option Rows → List ℕ → Type 0
SpellsContent parts None bytes = SpellsParts parts 0 bytes
SpellsContent parts (Some rows) bytes =
    (first : List ℕ) × (rest : List ℕ) × (bytes ≡ first ++ rest) × SpellsParts parts 0 first
    × ((list : List (List ℕ)) × AreRows rows list rest)

-- what may stand behind the content: at most three bytes, and behind rows none
abbrev pub IsRest : Option Rows → List ℕ → Type 0
IsRest None bytes = length bytes ≤ 3
IsRest (Some rows) bytes = bytes ≡ []

-- A record is this leaf of a space.
pub record IsLeaf (space : Space) (bytes : List ℕ) (leaf : Leaf) : Type 0 where
  pub size : List ℕ
  pub kind : List ℕ
  pub content : List ℕ
  pub rest : List ℕ
  pub parts : List Part
  pub whole : bytes ≡ size ++ (kind ++ (content ++ rest))
  pub size_len : length size ≡ 2
  pub kind_len : length kind ≡ 2
  pub size_is : little_number 2 size + 2 ≡ length bytes
  pub longest : length bytes ≤ 65536
  pub multiple : length bytes % 4 ≡ 0
  pub kind_is : leaf.kind ≡ little_number 2 kind
  pub known : parts_of space leaf.kind ≡ Some parts
  pub content_is : SpellsContent parts (rows_of leaf.kind) content
  pub rest_is : IsRest (rows_of leaf.kind) rest
  pub end_is : leaf.end ≡ 4 + length content
