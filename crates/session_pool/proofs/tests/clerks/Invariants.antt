use Rattle.std.proofs.Common.{◌≡◌, ◌<◌, ◌^◌, All, vec_len}
use Rattle.session_pool.proofs.tests.clerks.Given as goal

abbrev pub invariant-loop-made : goal.invariant-loop-made
invariant-loop-made l = record { count : vec_len l.all ≡ l._made; none : All (λ w. w.links < 2 ^ 62) l.all.items }
