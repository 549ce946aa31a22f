-- Edits of streams, and what they make of the contents.
use Rattle.std.specs.Prelude.{◌≡◌, ◌≤◌, ◌<◌, ◌⊎◌, ℕ, ◌+◌, ◌-◌, ◌*◌, ◌%◌, ◌==◌, ◌&&◌, nat_lt, nat_le, if◌then◌else◌, Bool, List, [], ◌∷◌, length, map, find, slice_index, All, Option, Some, None, IsSome}
use Rattle.std.specs.List.{range_with_len}
use Rattle.std.specs.Option.{option_map}
use Rattle.msf_blocks.specs.Edit.{StreamEdit}
use Rattle.stream_directory.specs.Directory.{StreamBlocks, absent_size, stream_at}

-- whether an edit has byte j of stream i
abbrev pub has_byte : ℕ → ℕ → StreamEdit → Bool
has_byte i j e = e.stream == i && (nat_le e.at j && nat_lt j (e.at + length e.bytes))

-- the edit that has a byte of a stream, if one has it
abbrev pub edit_at : List StreamEdit → ℕ → ℕ → Option StreamEdit
edit_at edits i j = find (has_byte i j) edits

-- the length after edits of stream i, which had this one
abbrev pub len_after : List StreamEdit → ℕ → ℕ → ℕ
len_after [] i len = len
len_after (e ∷ edits) i len = if e.stream == i then e.len else len_after edits i len

-- byte j of a stream: that of the edit that has it, or else the old one
abbrev pub byte_by : ℕ → List ℕ → Option StreamEdit → ℕ
byte_by j bytes None = slice_index bytes j
byte_by j bytes (Some e) = slice_index e.bytes (j - e.at)

-- the content of stream i after edits, byte by byte
unfoldable pub edited_stream : List StreamEdit → ℕ → List ℕ → List ℕ
edited_stream edits i bytes = map (λ j. byte_by j bytes (edit_at edits i j)) (range_with_len 0 (len_after edits i (length bytes)))

-- the streams from stream i on; an absent one stays so
abbrev pub edited_from : List StreamEdit → ℕ → List (Option (List ℕ)) → List (Option (List ℕ))
edited_from edits i [] = []
edited_from edits i (x ∷ streams) = option_map (edited_stream edits i) x ∷ edited_from edits (i + 1) streams

-- the streams from stream 1 on
abbrev pub edited : List StreamEdit → List (Option (List ℕ)) → List (Option (List ℕ))
edited edits streams = edited_from edits 1 streams

-- An edit of a stream that is there, in whole blocks up to the end of the stream.
pub record IsEdit (block_size : ℕ) (streams : List (Option StreamBlocks)) (edits : List StreamEdit) (e : StreamEdit) : Type 0 where
  pub not_first : 1 ≤ e.stream
  pub present : IsSome (stream_at streams e.stream)
  pub begins : e.at % block_size ≡ 0
  pub ends : ((e.at + length e.bytes) % block_size ≡ 0) ⊎ (e.at + length e.bytes ≡ e.len)
  pub inside : e.at + length e.bytes ≤ e.len
  pub short : e.len < absent_size
  -- edits of one stream agree on its length
  pub agrees : len_after edits e.stream e.len ≡ e.len

-- A block of the new length that no edit has lies below the old size, as far as the new length reaches.
abbrev pub IsCovered : ℕ → List StreamEdit → ℕ → Option StreamBlocks → Type 0
IsCovered block_size edits i None = Unit {0}
IsCovered block_size edits i (Some stream) =
    (k : ℕ) → k * block_size < len_after edits i stream.size → edit_at edits i (k * block_size) ≡ None
    → (len_after edits i stream.size ≤ stream.size) ⊎ ((k + 1) * block_size ≤ stream.size)

-- edits that may be made of these streams
pub record AreEdits (block_size : ℕ) (streams : List (Option StreamBlocks)) (edits : List StreamEdit) : Type 0 where
  pub each : All (IsEdit block_size streams edits) edits
  pub covered : (i : ℕ) → 1 ≤ i → IsCovered block_size edits i (stream_at streams i)
