-- What the words behind a command give.
use Rattle.std.specs.Prelude.{ℕ, Bool, true, false, not, ◌==◌, ◌&&◌, List, [], ◌∷◌, map, length, nat_lt, Option, Some, None, if◌then◌else◌, option_map, option_and_then, codes}
use Rattle.std.specs.List.{list_all, list_any, before_first, after_first}
use Rattle.std.specs.Str.{bytes_eq}

abbrev pub Text : Type 0
Text = List ℕ

-- the text does not begin with a dash, or is a dash alone
abbrev pub is_plain : Text → Bool
is_plain [] = true
is_plain (b ∷ []) = true
is_plain (b ∷ c ∷ rest) = not (b == 45)

-- What a word is, where no option waits for its value.
pub data Kind : Type 0 where
  -- two dashes: each word behind them is a positional
  dashes : Kind
  positional : Kind
  -- an option of this name. Its value stands behind a `=`, or else is the next word.
  option : Text → Option Text → Kind
  -- a word with a dash that is no option
  unknown : Kind

abbrev pub has_name : Text → List Text → Bool
has_name name names = list_any (λ n. bytes_eq n name) names

abbrev pub is_equals : ℕ → Bool
is_equals b = b == 61

-- what stands before the first `=`
abbrev pub name_in : Text → Text
name_in text = before_first is_equals text

-- what stands behind the first `=`
abbrev pub value_in_word : Text → Option Text
value_in_word text = if list_any is_equals text then Some (after_first is_equals text) else None

-- what a word is by what stands behind its two dashes
abbrev pub long_kind : List Text → Text → Kind
long_kind names [] = dashes
long_kind names (b ∷ rest) = if has_name (name_in (b ∷ rest)) names then option (name_in (b ∷ rest)) (value_in_word (b ∷ rest)) else unknown

abbrev pub dash_kind : List Text → ℕ → Text → Kind
dash_kind names b rest = if b == 45 then long_kind names rest else unknown

-- what a word is to a command with options of these names
abbrev pub kind_of : List Text → Text → Kind
kind_of names [] = positional
kind_of names (b ∷ []) = positional
kind_of names (b ∷ c ∷ rest) = if b == 45 then dash_kind names c rest else positional

-- What is given: the value of an option, by its name, or a positional.
abbrev pub Given : Type 0
Given = Option Text × Text

abbrev pub positional_of : Text → Given
positional_of word = (None, word)

abbrev pub then_given : Given → Option (List Given) → Option (List Given)
then_given first later = option_map (λ all. first ∷ all) later

-- an option, whose value stands in its word or is the next one
abbrev pub given_as : Text → Option Text → (Option Text → Option (List Given)) → Option (List Given)
given_as name (Some value) rest = then_given (Some name, value) (rest None)
given_as name None rest = rest (Some name)

-- What the words from one on give, by what it is. `rest` says what those behind it give, where this option waits for its value.
abbrev pub given_by : Kind → Text → List Text → (Option Text → Option (List Given)) → Option (List Given)
given_by dashes word words rest = Some (map positional_of words)
given_by positional word words rest = then_given (positional_of word) (rest None)
given_by (option name value) word words rest = given_as name value rest
given_by unknown word words rest = None

-- a word that is the value of an option
abbrev pub value_by : Bool → Text → Text → (Option Text → Option (List Given)) → Option (List Given)
value_by true name word rest = then_given (Some name, word) (rest None)
value_by false name word rest = None

-- What the words give, in order, where an option may wait for its value: nothing where they are no line of a command with
-- options of these names.
abbrev pub given_from : List Text → List Text → Option Text → Option (List Given)
given_from names [] None = Some []
given_from names [] (Some name) = None
given_from names (word ∷ words) None = given_by (kind_of names word) word words (given_from names words)
given_from names (word ∷ words) (Some name) = value_by (is_plain word) name word (given_from names words)

abbrev pub or_skip : Option Text → Text → List Text → List Text
or_skip None value later = value ∷ later
or_skip (Some name) value later = later

-- the positionals among what is given, in order
abbrev pub positionals_of : List Given → List Text
positionals_of [] = []
positionals_of (g ∷ given) = or_skip g.0 g.1 (positionals_of given)

abbrev pub or_pass : Option Text → Text → List (Text × Text) → List (Text × Text)
or_pass None value later = later
or_pass (Some name) value later = (name, value) ∷ later

-- the options among what is given, in order, each with its value
abbrev pub options_of : List Given → List (Text × Text)
options_of [] = []
options_of (g ∷ given) = or_pass g.0 g.1 (options_of given)

abbrev pub has_option : Text → List (Text × Text) → Bool
has_option name options = list_any (λ o. bytes_eq o.0 name) options

-- no option stands twice
abbrev pub are_once : List (Text × Text) → Bool
are_once [] = true
are_once (o ∷ options) = not (has_option o.0 options) && are_once options

abbrev pub has_no_empty : List Given → Bool
has_no_empty given = list_all (λ g. nat_lt 0 (length g.1)) given

-- What the words behind a command give it.
pub record Line : Type 0 where
  pub positionals : List Text
  pub options : List (Text × Text)

abbrev pub line_by : List Given → Option Line
line_by given =
    if has_no_empty given && are_once (options_of given) then Some (record { positionals = positionals_of given; options = options_of given }) else None

-- What the words give to a command with options of these names: no value is empty, and no option stands twice.
abbrev pub line_of : List Text → List Text → Option Line
line_of names words = option_and_then line_by (given_from names words None)

-- the value of an option
abbrev pub value_in : Text → List (Text × Text) → Option Text
value_in name [] = None
value_in name (o ∷ options) = if bytes_eq o.0 name then Some o.1 else value_in name options

-- the name by which the positionals are found: no option has it
abbrev pub positional_name : Text
positional_name = codes "PATH"

-- a name of an option has a byte or more and no `=`
abbrev pub is_name : Text → Bool
is_name name = not (list_any is_equals name) && (not (bytes_eq positional_name name) && nat_lt 0 (length name))

abbrev pub are_names : List Text → Bool
are_names names = list_all is_name names
