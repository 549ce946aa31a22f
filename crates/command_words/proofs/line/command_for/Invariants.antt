use Rattle.std.proofs.Common.{◌≡◌, map, take}
use Rattle.clap.specs.Simple.{app_of}
use Rattle.command_words.specs.Commands.{app_for}
use Rattle.command_words.proofs.line.command_for.Given as goal

abbrev pub invariant-loop-name : goal.invariant-loop-name
invariant-loop-name l = app_of l.command ≡ app_for (map (λ n. n.now) (take l.name-index l.names))
