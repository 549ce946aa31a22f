-- The words that spell what is given.
use Rattle.std.specs.Prelude.{◌≡◌, ◌++◌, Bool, true, false, List, [], ◌∷◌, map, Some, None, if◌then◌else◌, codes}
use Rattle.std.specs.List.{AllByRecursion, flat_map}
use Rattle.command_words.specs.Lines.{Given, Text, has_name, is_plain, positional_of}

-- One part of a line: an option and its value, in two words or in one, or a positional.
pub data Part : Type 0 where
  apart : Text → Text → Part
  joined : Text → Text → Part
  plain : Text → Part

-- the words of a part
abbrev pub words_of : Part → List Text
words_of (apart name value) = (codes "--" ++ name) ∷ value ∷ []
words_of (joined name value) = (codes "--" ++ (name ++ (codes "=" ++ value))) ∷ []
words_of (plain word) = word ∷ []

abbrev pub given_of : Part → Given
given_of (apart name value) = (Some name, value)
given_of (joined name value) = (Some name, value)
given_of (plain word) = (None, word)

-- The names are those of options, and a word that stands alone does not begin with a dash, unless it is a dash alone.
abbrev pub IsPart : List Text → Part → Type 0
IsPart names (apart name value) = (has_name name names ≡ true) × (is_plain value ≡ true)
IsPart names (joined name value) = has_name name names ≡ true
IsPart names (plain word) = is_plain word ≡ true

-- The words are those of the parts, and behind them two dashes and any words, or nothing.
pub record Spells (names words : List Text) (given : List Given) : Type 0 where
  pub parts : List Part
  pub dashes : Bool
  pub behind : List Text
  pub each : AllByRecursion (IsPart names) parts
  pub only_behind : dashes ≡ false → behind ≡ []
  pub words_are : words ≡ flat_map words_of parts ++ (if dashes then codes "--" ∷ behind else [])
  pub given_are : given ≡ map given_of parts ++ map positional_of behind
