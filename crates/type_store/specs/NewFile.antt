-- The contents of a new file. docs/FORMAT.md has the text of each stream.
use Rattle.std.specs.Prelude.{ℕ, ◌+◌, List, [], ◌∷◌, ◌++◌, length, take, drop, replicate, slice_set, Some}
use Rattle.std.specs.Option.{option_map}
use Rattle.info_stream.specs.Text.{new_info}
use Rattle.tpi_stream.specs.declared.header.Kept.{Kept}
use Rattle.tpi_stream.specs.Written.{record_stream_text}
use Rattle.names_table.specs.Text.{names_text}
use Rattle.type_store.specs.Holds.{Contents, content_at}
use Rattle.type_store.specs.Written.{KeptNumbers}

-- the numbers of a stream of records whose hash stream is this one: there is no further hash stream
abbrev pub new_kept : ℕ → Kept
new_kept hash_stream = record { hash_stream = hash_stream; aux_stream = 65535; buckets = 262143 }

abbrev pub new_numbers : KeptNumbers
new_numbers = record { types = new_kept 5; items = new_kept 6; names_stream = 7 }

-- The eight streams: the PDB stream is 1, the types are 2 and the items 4, both hash streams are 5 and 6, and the names are 7.
abbrev pub contents_with : List ℕ → List ℕ → Contents
contents_with info names =
    Some [] ∷ Some info ∷ Some (record_stream_text (new_kept 5) []) ∷ Some [] ∷ Some (record_stream_text (new_kept 6) []) ∷ Some [] ∷ Some [] ∷ Some names ∷ []

abbrev pub new_contents : List ℕ → ℕ → Contents
new_contents guid signature = contents_with (new_info guid signature) (names_text 1 [])

-- other bytes in place of those from a place on
abbrev pub replaced : ℕ → List ℕ → List ℕ → List ℕ
replaced at new bytes = take at bytes ++ (new ++ drop (at + length new) bytes)

-- a new file whose GUID and signature are 0, and the same with a stream changed
abbrev pub plain_contents : Contents
plain_contents = new_contents (replicate 16 0) 0

abbrev pub changed : ℕ → (List ℕ → List ℕ) → Contents
changed i change = slice_set plain_contents i (option_map change (content_at plain_contents i))
