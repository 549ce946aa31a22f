use Rattle.std.proofs.Common.{◌<◌, [], ◌∷◌, arith}
use Rattle.std.proofs.lemmas.List.Elements.{All-from_recursion}
use Rattle.stream_directory.proofs.tests.used_before.Goals as goal

pub read_directory_behind-requires-clause-inside : goal.read_directory_behind-requires-clause-inside
read_directory_behind-requires-clause-inside g c = All-from_recursion (λ b. b < c.in_ok-s.s.blocks) (8 ∷ 4 ∷ []) (omega arith, (omega arith, tt))
