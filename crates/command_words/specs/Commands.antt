-- A command as the parser of command lines sees it, and what it finds. No public clause cites this.
use Rattle.std.specs.Prelude.{◌≡◌, false, true, List, [], ◌∷◌, map, Option, Some, None, option_map}
use Rattle.std.specs.Str.{bytes_eq}
use Rattle.clap.specs.Walk.{Rule}
use Rattle.clap.specs.Simple.{App, new_app, new_rule}
use Rattle.clap.specs.Matches.{first_value, matched_of, raw_values}
use Rattle.clap.specs.declared.builder.action.ArgAction.TheVariants.{Append, Set}
use Rattle.clap.specs.declared.builder.value_parser.ValueParser.TheVariants.{NonEmptyString}
use Rattle.clap.specs.declared.parser.matches.Found.{Found}
use Rattle.command_words.specs.Lines.{Line, Text, positional_name, value_in}

-- any number of positionals, none of them empty
abbrev pub positional_rule : Rule
positional_rule = record (new_rule positional_name) { action = Some Append; parser = Some NonEmptyString }

-- an option with one value, which is not empty
abbrev pub option_rule : Text → Rule
option_rule name = record (new_rule name) { long = Some name; action = Some Set; parser = Some NonEmptyString }

-- a command with positionals and options of these names
abbrev pub app_for : List Text → App
app_for names = record {
  top = record (new_app []).top {
    rules = positional_rule ∷ map option_rule names;
    no_binary_name = true;
    disable_help_flag = true;
    disable_version_flag = true;
  };
  subs = [];
}

abbrev pub values_or_none : Option (List Text) → List Text
values_or_none None = []
values_or_none (Some values) = values

-- what was found is what the line gives
pub record Shows (found : Found) (line : Line) : Type 0 where
  pub positionals : values_or_none (option_map raw_values (matched_of found positional_name)) ≡ line.positionals
  pub options : (name : Text) → bytes_eq positional_name name ≡ false → first_value found name ≡ value_in name line.options
