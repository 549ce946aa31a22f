use Rattle.std.proofs.Common.{subst, sym, ap, ◌∙◌}
use Rattle.std.proofs.lemmas.Result.{on_ok_weaker}
use Rattle.srv_edge.specs.Disk.{with_head}
use Rattle.committer.specs.Change.{IsEither, IsNew}
use Rattle.committer.proofs.Runs.{next_call, one_call}
use Rattle.committer.proofs.Steps.{either_of, head_turns, head_written}
use Rattle.committer.proofs.writer.turn.Goals as goal

pub returns-in_err-write_super-clause-still : goal.returns-in_err-write_super-clause-still
returns-in_err-write_super-clause-still g c = λ change can.
    head_written change c.args.image.now _ _ _ c.write_super-text.ensures can c.write_super.ensures.crash

pub returns-in_err-write_super-clause-any_moment : goal.returns-in_err-write_super-clause-any_moment
returns-in_err-write_super-clause-any_moment g c = λ change can.
    let new = c.args.image.now in
    one_call g.D.Device c.args.device.now c.write_super.new.self (IsEither change new) (g.met.D.Device.only_now c.args.device.now) c.write_super.ensures.time (λ y now. either_of change new y (can.now y now))
    (λ y now. either_of change new y (head_written change new _ _ _ c.write_super-text.ensures can c.write_super.ensures.crash y now))

pub returns-clause-still : goal.returns-clause-still
returns-clause-still g c = λ change can y now.
    head_written change c.args.image.now _ _ _ c.write_super-text.ensures can c.write_super.ensures.crash y (c.sync.ensures.crash y now)

pub returns-clause-any_moment : goal.returns-clause-any_moment
returns-clause-any_moment g c = λ change can.
    let new = c.args.image.now in
    let still = head_written change new _ _ _ c.write_super-text.ensures can c.write_super.ensures.crash in
    next_call g.D.Device c.args.device.now c.write_super.new.self c.sync.new.self (IsEither change new)
    (one_call g.D.Device c.args.device.now c.write_super.new.self (IsEither change new) (g.met.D.Device.only_now c.args.device.now) c.write_super.ensures.time (λ y now. either_of change new y (can.now y now))
    (λ y now. either_of change new y (still y now)))
    c.sync.ensures.time (λ y now. either_of change new y (still y (c.sync.ensures.crash y now)))

pub returns-clause-done : goal.returns-clause-done
returns-clause-done g c = λ change can.
    let new = c.args.image.now in
    let file = g.D.Device.seen c.args.device.now in
    on_ok_weaker c.sync.result (λ only y now.
    let tells = g.met.D.Device.told c.sync.new.self y now in
    let is = only y now ∙ c.in_ok-write_super.ensures.written tells ∙ ap (with_head file) c.write_super-text.ensures in
    subst (IsNew change new) (sym is) (head_turns change new file can.old_whole (can.now file (g.met.D.Device.seen_is_one c.args.device.now tells)))) c.sync.ensures.durable
