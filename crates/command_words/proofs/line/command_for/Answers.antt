use Rattle.std.proofs.Common.{◌∙◌, map, take, ap, ap₂}
use Rattle.clap.specs.Simple.{with_rule}
use Rattle.command_words.specs.Commands.{app_for}
use Rattle.command_words.proofs.Reading.{app_more, names_more}
use Rattle.command_words.proofs.line.command_for.Goals as goal

pub loop-name-preserved : goal.loop-name-preserved
loop-name-preserved c =
    c.in_ok-command-2.ensures.shape c.option_for.ensures.local ∙ ap₂ with_rule c.loop-name.invariant c.option_for.ensures.rule
    ∙ app_more (map (λ n. n.now) (take c.loop-name.name-index c.args.names.now)) _
    ∙ ap app_for (names_more c.args.names.now c.loop-name.name-index _ c.loop-name-test.true)
