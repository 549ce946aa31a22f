-- The hash of a record.
use Rattle.std.specs.Prelude.{ℕ, ◌==◌, nat_eq, Bool, ◌&&◌, ◌||◌, not, List, drop, take, codes, Option, Some, None, is_ok, is_some, if◌then◌else◌}
use Rattle.std.specs.List.{ends_with}
use Rattle.std.specs.Str.{bytes_eq}
use Rattle.leaf_grammar.specs.declared.grammar.Space.TheVariants.{Items}
use Rattle.leaf_grammar.specs.Leaf.{kind_of, leaf_of}
use Rattle.leaf_grammar.specs.Tag.{Tag, tag_of}
use Rattle.type_hash.specs.Hash.{string_v1_of, buffer_of}

-- LF_UDT_SRC_LINE, LF_UDT_MOD_SRC_LINE
abbrev pub is_line : ℕ → Bool
is_line kind = (kind == 0x1606) || (kind == 0x1607)

-- a name that compilers give to what has none
abbrev pub is_made_up : List ℕ → Bool
is_made_up name =
    bytes_eq name (codes "<unnamed-tag>") || bytes_eq name (codes "__unnamed")
    || ends_with nat_eq name (codes "::<unnamed-tag>") || ends_with nat_eq name (codes "::__unnamed")

-- The name that stands for a tag: none for a forward reference and for a tag that has a unique name
-- beside one that was made up; of others the name, and within a function the unique name, if it has one.
unfoldable pub chosen_name : Tag → Option (List ℕ)
chosen_name tag =
    if tag.is_forward then None
    else if is_some tag.unique_name && is_made_up tag.name then None
    else if not tag.is_scoped then Some tag.name
    else tag.unique_name

-- by a name, or where there is none by all bytes
abbrev pub named_hash : Option (List ℕ) → List ℕ → ℕ
named_hash None r = buffer_of r
named_hash (Some name) r = string_v1_of name

-- a line, where a type is declared, goes by the type's index
abbrev pub untagged_hash : List ℕ → ℕ
untagged_hash r = if is_ok (leaf_of Items r) && is_line (kind_of r) then string_v1_of (take 4 (drop 4 r)) else buffer_of r

abbrev pub hash_with : Option Tag → List ℕ → ℕ
hash_with None r = untagged_hash r
hash_with (Some tag) r = named_hash (chosen_name tag) r

-- A tag goes by the name that stands for it, if one does, and a line by its type. All else goes by all
-- its bytes, also what is no leaf.
unfoldable pub record_hash : List ℕ → ℕ
record_hash r = hash_with (tag_of r) r
