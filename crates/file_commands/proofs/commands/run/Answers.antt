use Rattle.std.proofs.Common.{subst}
use Rattle.command_words.specs.Forms.{IsPlan}
use Rattle.file_commands.specs.declared.show.Detail.TheVariants as detail
use Rattle.file_commands.proofs.Printing.{nothing_printed}
use Rattle.file_commands.proofs.commands.run.Goals as goal

pub returns-in-Ok-Check-clause-session_completes : goal.returns-in-Ok-Check-clause-session_completes
returns-in-Ok-Check-clause-session_completes g c = λ path is. absurd (cc (c.in-Ok-Check.ensures, c.in-Ok-Check.field-0-is, is))

pub returns-in-Ok-Dump-clause-session_completes : goal.returns-in-Ok-Dump-clause-session_completes
returns-in-Ok-Dump-clause-session_completes g c = λ path is. absurd (cc (c.in-Ok-Dump.ensures, c.in-Ok-Dump.field-0-is, is))

pub returns-in-Ok-Init-clause-session_completes : goal.returns-in-Ok-Init-clause-session_completes
returns-in-Ok-Init-clause-session_completes g c = λ path is. absurd (cc (c.in-Ok-Init.ensures, is))

pub returns-in-Ok-Gen-clause-session_completes : goal.returns-in-Ok-Gen-clause-session_completes
returns-in-Ok-Gen-clause-session_completes g c = λ path is. absurd (cc (c.in-Ok-Gen.ensures, c.in-Ok-Gen.field-0-is, is))

pub returns-in-Ok-Serve-clause-session_completes : goal.returns-in-Ok-Serve-clause-session_completes
returns-in-Ok-Serve-clause-session_completes g c = λ path is. absurd (cc (c.in-Ok-Serve.ensures, c.in-Ok-Serve.field-0-is, is))

pub draw-requires : goal.draw-requires
draw-requires g c =
    let plan = c.plans_have_words-in-Ok-Gen.ensures.only c.args.words.now c.in-Ok-Gen.field-0 c.in-Ok-Gen.ensures in
    (subst IsPlan c.in-Ok-Gen.field-0-is plan).few_units

pub init-requires : goal.init-requires
init-requires g c =
    let plan = c.plans_have_words.ensures.only c.args.words.now c.in-Ok-Init.field-0 c.in-Ok-Init.ensures in
    record { block = (subst IsPlan c.in-Ok-Init.field-0-is plan).block_size }

pub returns-clause-check : goal.returns-clause-check
returns-clause-check g c = λ path is. nothing_printed g.D.Device g.K.Sink detail.Lines c.args.device c.args.sink.now

pub returns-clause-dump : goal.returns-clause-dump
returns-clause-dump g c = λ path is. nothing_printed g.D.Device g.K.Sink detail.All c.args.device c.args.sink.now
