-- A row as the code returns it.
use Rattle.std.specs.Prelude.{◌≡◌, Result, Ok, Err, MatchResult}
use Rattle.leaf_grammar.specs.declared.grammar.Row.{Row}
use Rattle.leaf_grammar.specs.declared.grammar.Malformed.{Malformed}
use Rattle.leaf_grammar.specs.Leaf as leaf

-- what was returned is this row, or this is wrong
abbrev pub GivesRow : Result Row Malformed → Result leaf.Row Malformed → Type 0
GivesRow result row = MatchResult result (λ got. row ≡ Ok (leaf.row got.parts.now got.at)) (λ bad. row ≡ Err bad)
