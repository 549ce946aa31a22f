use Rattle.std.proofs.Common.{◌≡◌, ◌<◌, ◌+◌, ◌-◌, ◌^◌}
use Rattle.session_pool.proofs.shop.work.Given as goal

-- the marks say how many links the worker has served since it began
abbrev pub invariant-links : goal.invariant-links
invariant-links g l = record {
  parts : l.mine.taken.parts ≡ l.initial.mine.taken.parts;
  served : g.W.Work.served l.worker ≡ g.W.Work.served l.initial.worker + l.mine.taken.amount;
  badge : g.W.Work.badge l.worker ≡ g.W.Work.badge l.initial.worker;
  all_back : l.mine.out.amount ≡ 0;
  few : l.mine.taken.amount < 2 ^ 32;
}

abbrev pub decreases-links : goal.decreases-links
decreases-links g l = 2 ^ 32 - l.mine.taken.amount
