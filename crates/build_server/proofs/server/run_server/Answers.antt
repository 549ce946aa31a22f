use Rattle.std.proofs.Common.{subst}
use Rattle.command_words.specs.Forms.{IsPlan}
use Rattle.build_server.proofs.Causes.{completes_of, disk_of, fails_of, loans_kept, usage_of, writes_of}
use Rattle.build_server.proofs.server.run_server.Goals as goal

pub serve-requires-clause-workers : goal.serve-requires-clause-workers
serve-requires-clause-workers g c κs within =
    let plan = c.plans_have_words.ensures.only c.args.words.now c.in-Ok-Serve.field-0 c.in-Ok-Serve.ensures in
    let is = subst IsPlan c.in-Ok-Serve.field-0-is plan in
    (is.some_workers, is.few_workers)
