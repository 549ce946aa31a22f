use Rattle.std.proofs.Common.{ℕ, List, ap, ◌∙◌, arith}
use Rattle.msf_blocks.specs.Blocks.{block_offset}
use Rattle.committer.specs.Change.{Change, IsOld}
use Rattle.committer.specs.Writing.{CanWrite}
use Rattle.committer.proofs.Runs.{next_call}
use Rattle.committer.proofs.Steps.{write_done, write_leaves}
use Rattle.committer.proofs.writer.write_blocks.Goals as goal

pub returns-in_err-write-clause-still : goal.returns-in_err-write-clause-still
returns-in_err-write-clause-still g c = λ change can.
    write_leaves c.args.block_size c.args.writes.now c.loop-w.w-index c.w-item.result c.block_offset.result c.bytes.result.now c.loop-w-test.true c.w-item.is (c.block_offset.ensures ∙ ap (block_offset c.args.block_size) c.block.ensures) c.bytes.ensures
    change _ _ _ can (c.loop-w.invariant.now change can) c.write.ensures.crash

pub returns-in_err-write-clause-any_moment : goal.returns-in_err-write-clause-any_moment
returns-in_err-write-clause-any_moment g c = λ change can.
    next_call g.D.Device c.args.device.now c.loop-w.device c.write.new.self (IsOld change) (c.loop-w.invariant.run change can) c.write.ensures.time (returns-in_err-write-clause-still g c change can)

pub loop-w-preserved : goal.loop-w-preserved
loop-w-preserved g c =
    let size = c.args.block_size in
    let writes = c.args.writes.now in
    let at_is = c.block_offset.ensures ∙ ap (block_offset size) c.block.ensures in
    let kept = c.loop-w.invariant in
    let still : (change : Change) → CanWrite change size writes (g.D.Device.may_leave c.args.device.now) → (y : List ℕ) → g.D.Device.may_leave c.write.new.self y → IsOld change y = λ change can.
    write_leaves size writes c.loop-w.w-index c.w-item.result c.block_offset.result c.bytes.result.now c.loop-w-test.true c.w-item.is at_is c.bytes.ensures change _ _ _ can (kept.now change can) c.write.ensures.crash in
    record {
      run = λ change can. next_call g.D.Device c.args.device.now c.loop-w.device c.write.new.self (IsOld change) (kept.run change can) c.write.ensures.time (still change can);
      now = still;
      rest = λ tells.
          write_done size writes c.loop-w.w-index c.w-item.result c.block_offset.result c.bytes.result.now c.loop-w-test.true c.w-item.is at_is c.bytes.ensures (g.D.Device.seen c.loop-w.device) (g.D.Device.seen c.write.new.self) (c.in_ok-write.ensures.written tells)
          ∙ kept.rest tells;
      falls = omega (arith, kept.falls, c.write.ensures.cause.never_falls);
      loans = c.write.ensures.loans ∙ kept.loans;
    }
