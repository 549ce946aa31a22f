use Rattle.turnstile.specs.Passes.{IsIdleAt, IsSamePass}
use Rattle.turnstile.proofs.tests.file_many.Given as goal

abbrev pub invariant-loop-k : goal.invariant-loop-k
invariant-loop-k g l = record { idle : IsIdleAt l.gate l.pass; same : IsSamePass l.fn.pass l.pass }
