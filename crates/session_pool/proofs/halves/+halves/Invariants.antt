use Rattle.std.proofs.Common.{◌+◌, ◌-◌, ◌*◌, length}
use Rattle.session_pool.proofs.halves.+halves.Given as goal

-- each step has fewer workers, or comes later among those with the same ones
abbrev pub decreases-work_all : goal.decreases-work_all
decreases-work_all g l = 3 * length l.workers.now

abbrev pub decreases-both_halves : goal.decreases-both_halves
decreases-both_halves g l = 3 * (length l.low.now + length l.high.now) - 1

abbrev pub decreases-both_halves-front : goal.decreases-both_halves-front
decreases-both_halves-front g l = 3 * length l.low.now + 1

abbrev pub decreases-both_halves-back : goal.decreases-both_halves-back
decreases-both_halves-back g l = 3 * length l.high.now + 1
