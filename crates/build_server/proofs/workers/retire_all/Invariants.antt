use Rattle.std.proofs.Common.{◌≡◌, ◌++◌, length, map}
use Rattle.turnstile.specs.Histories.{Begins}
use Rattle.build_server.specs.Workers.{AreRetiredFrom, badge_of, badges_from}
use Rattle.build_server.proofs.workers.retire_all.Given as goal

abbrev pub invariant-loop-worker : goal.invariant-loop-worker
invariant-loop-worker g l = record {
  passes : map (λ w. badge_of w.desk) (l.yielded ++ l.worker-iterator.rest.items) ≡ badges_from l.hub 1 (length (l.yielded ++ l.worker-iterator.rest.items));
  seen : Begins l.initial.first.seen l.first.seen;
  same : l.first ≡ record l.initial.first { seen = l.first.seen; ended = l.first.ended };
  retired : AreRetiredFrom 1 l.first.ended;
  count : length l.first.ended ≡ length l.yielded;
}
