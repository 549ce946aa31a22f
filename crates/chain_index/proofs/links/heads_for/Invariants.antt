use Rattle.std.proofs.Common.{◌-◌}
use Rattle.chain_index.proofs.Heads.{IsOnTheWay}
use Rattle.chain_index.proofs.links.heads_for.Given as goal

abbrev pub invariant-loop-doubling : goal.invariant-loop-doubling
invariant-loop-doubling l = IsOnTheWay (8 - l._doubling) l.heads l.records
