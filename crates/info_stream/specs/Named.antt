-- The named stream map of the PDB stream, and the age. docs/FORMAT.md, "The PDB stream".
use Rattle.std.specs.Prelude.{ℕ, ◌*◌, ◌==◌, nat_le, if◌then◌else◌, Bool, false, List, [], ◌∷◌, length, take, drop, count_ones, find, Option, Some, None, Result, Ok, Err}
use Rattle.std.specs.List.{position, sum_by}
use Rattle.std.specs.Option.{option_map, option_map_or}
use Rattle.std.specs.Str.{bytes_eq}
use Rattle.byteorder.specs.Endian.{little_number}
use Rattle.msf_blocks.specs.Judging.{◌>>=◌}
use Rattle.info_stream.specs.declared.fault.InfoFault.{InfoFault}
use Rattle.info_stream.specs.declared.fault.InfoFault.TheVariants.{NoName}
use Rattle.info_stream.specs.Reading.{counted, field, number, numbers}

-- a map from names to streams: the bytes of the texts, and pairs of a place in them and a stream
pub record NamedStreams : Type 0 where
  pub texts : List ℕ
  pub pairs : List (ℕ × ℕ)

-- the numbers two by two
abbrev pub pairs_of : List ℕ → List (ℕ × ℕ)
pairs_of (at ∷ stream ∷ numbers) = (at, stream) ∷ pairs_of numbers
pairs_of _ = []

-- what stands behind the version, the signature, the age and the GUID
unfoldable pub behind_guid : List ℕ → Result (List ℕ) InfoFault
behind_guid info = do
  version ← number (length info) info
  signature ← number (length info) version.1
  age ← number (length info) signature.1
  guid ← field (length info) 16 age.1
  Ok guid.1

-- the map: a pair stands for each bit that is 1 in the present words
unfoldable pub map_in : ℕ → List ℕ → Result NamedStreams InfoFault
map_in whole bytes = do
  size ← number whole bytes
  texts ← field whole size.0 size.1
  count ← number whole texts.1
  capacity ← number whole count.1
  present ← counted whole capacity.1
  deleted ← counted whole present.1
  words ← numbers whole (2 * sum_by count_ones present.0) deleted.1
  Ok (record { texts = texts.0; pairs = pairs_of words.0 })

unfoldable pub named_streams : List ℕ → Result NamedStreams InfoFault
named_streams info = do
  bytes ← behind_guid info
  map_in (length info) bytes

-- the text that stands at a place, if it is whole: the bytes before the first NUL from there on
abbrev pub text_at : List ℕ → ℕ → Option (List ℕ)
text_at texts at = option_map (λ n. take n (drop at texts)) (position (λ byte. byte == 0) (drop at texts))

abbrev pub has_text : List ℕ → List ℕ → ℕ → Bool
has_text texts name at = option_map_or (λ text. bytes_eq text name) (text_at texts at) false

abbrev pub stream_of : Option (ℕ × ℕ) → Result ℕ InfoFault
stream_of None = Err NoName
stream_of (Some pair) = Ok pair.1

-- the stream of the first pair whose text is whole and is the name
abbrev pub stream_in : List ℕ → NamedStreams → Result ℕ InfoFault
stream_in name map = stream_of (find (λ pair. has_text map.texts name pair.0) map.pairs)

-- all pairs are read before one is chosen
unfoldable pub stream_named : List ℕ → List ℕ → Result ℕ InfoFault
stream_named info name = do
  map ← named_streams info
  stream_in name map

-- the number at 8
unfoldable pub age_in : List ℕ → Option ℕ
age_in info = if nat_le 12 (length info) then Some (little_number 4 (drop 8 info)) else None
