use Rattle.std.proofs.Common.{arith}
use Rattle.chain_index.proofs.Heads.{way_begins, way-fits, way_on, way_by}
use Rattle.chain_index.proofs.links.heads_for.Goals as goal
use Rattle.chain_index.proofs.links.heads_for.Goals.{then-heads-records, else-heads-records}

pub loop-doubling-init : goal.loop-doubling-init
loop-doubling-init c = way_begins c.args.records

pub overflow_mul-heads : goal.overflow_mul-heads
overflow_mul-heads c =
    let fits = way-fits c.loop-doubling._doubling c.loop-doubling.heads c.args.records c.loop-doubling-test.true c.loop-doubling.invariant in
    omega (arith, fits)

pub loop-doubling-preserved : goal.loop-doubling-preserved
loop-doubling-preserved c =
    elim c.if-heads-records.branch [
      | then-heads-records w ↦ way_on c.loop-doubling._doubling c.loop-doubling.heads c.if-heads-records.heads c.args.records c.loop-doubling-test.true w.if-heads-records.true w.heads-is c.loop-doubling.invariant
      | else-heads-records w ↦ way_by c.loop-doubling._doubling c.loop-doubling.heads c.if-heads-records.heads c.args.records c.loop-doubling-test.true w.if-heads-records.false w.heads-is c.loop-doubling.invariant
    ]
