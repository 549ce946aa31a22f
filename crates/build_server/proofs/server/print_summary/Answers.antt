use Rattle.std.proofs.Common.{◌∙◌, List, ℕ, subst}
use Rattle.program_status.specs.Prints.{Prints}
use Rattle.program_status.specs.declared.status.Status.TheVariants as status
use Rattle.build_server.proofs.server.print_summary.Goals as goal

pub returns-clause-printed : goal.returns-clause-printed
returns-clause-printed g c =
    subst (λ (text : List ℕ). Prints g.K.Sink text status.Ok c.args.sink.now c.print.new.sink c.print.result) (c.bytes.ensures.bytes ∙ c.put_summary.ensures) c.print.ensures.printed
