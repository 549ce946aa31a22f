use Rattle.std.proofs.Common.{◌⊎◌, inl, subst, ◌∙◌}
use Rattle.srv_edge.specs.Disk.{LeavesOnly}
use Rattle.srv_edge.proofs.Moments.{joined, weaker}
use Rattle.committer.specs.Change.{IsEither, IsNew, IsOld, IsReady}
use Rattle.committer.proofs.Runs.{next_call}
use Rattle.committer.proofs.Steps.{can_turn_as, can_write_as}
use Rattle.committer.proofs.writer.write_plan.Goals as goal

pub returns-in_default-clause-settled : goal.returns-in_default-clause-settled
returns-in_default-clause-settled g c = λ change can is y now.
    c.write_blocks.ensures.still change (can_write_as change c.args.plan.now _ _ can c.image-image.result.now c.writes.result.now c.image-image.ensures c.writes.ensures) y now

pub returns-in_default-clause-any_moment : goal.returns-in_default-clause-any_moment
returns-in_default-clause-any_moment g c = λ change can.
    let d = g.D.Device in
    weaker d.moment d.left_since c.args.device.now c.write_blocks.new.device (IsOld change) (IsEither change c.args.plan.now.image)
    (c.write_blocks.ensures.any_moment change (can_write_as change c.args.plan.now _ _ can c.image-image.result.now c.writes.result.now c.image-image.ensures c.writes.ensures)) (λ y is. inl is)

pub returns-in_default-sync-clause-settled : goal.returns-in_default-sync-clause-settled
returns-in_default-sync-clause-settled g c = λ change can is y now.
    c.write_blocks.ensures.still change (can_write_as change c.args.plan.now _ _ can c.image-image.result.now c.writes.result.now c.image-image.ensures c.writes.ensures) y (c.sync.ensures.crash y now)

pub returns-in_default-sync-clause-any_moment : goal.returns-in_default-sync-clause-any_moment
returns-in_default-sync-clause-any_moment g c = λ change can.
    let d = g.D.Device in
    let write = can_write_as change c.args.plan.now _ _ can c.image-image.result.now c.writes.result.now c.image-image.ensures c.writes.ensures in
    weaker d.moment d.left_since c.args.device.now c.sync.new.self (IsOld change) (IsEither change c.args.plan.now.image)
    (next_call d c.args.device.now c.write_blocks.new.device c.sync.new.self (IsOld change) (c.write_blocks.ensures.any_moment change write) c.sync.ensures.time (λ y now. c.write_blocks.ensures.still change write y (c.sync.ensures.crash y now))) (λ y is. inl is)

pub returns-in_default-turn-clause-doubt : goal.returns-in_default-turn-clause-doubt
returns-in_default-turn-clause-doubt g c = λ change can is y now.
    let image = c.image-image.result.now in
    let turns =
    can_turn_as change c.args.plan.now _ _ can image c.writes.result.now c.image-image.ensures c.writes.ensures (g.D.Device.may_leave c.sync.new.self) (λ y now. g.met.D.Device.seen_is_one c.args.device.now (g.met.D.Device.told c.sync.new.self y now))
    (λ y now. c.in-Ok-sync.ensures.durable y now ∙ c.in-Ok.ensures.written (g.met.D.Device.told c.sync.new.self y now)) in
    subst (λ i. IsReady change i y ⊎ IsNew change i y) c.image-image.ensures (c.turn.ensures.still change turns y now)

pub returns-in_default-turn-clause-any_moment : goal.returns-in_default-turn-clause-any_moment
returns-in_default-turn-clause-any_moment g c = λ change can.
    let d = g.D.Device in
    let image = c.image-image.result.now in
    let write = can_write_as change c.args.plan.now _ _ can image c.writes.result.now c.image-image.ensures c.writes.ensures in
    let turns =
    can_turn_as change c.args.plan.now _ _ can image c.writes.result.now c.image-image.ensures c.writes.ensures (d.may_leave c.sync.new.self) (λ y now. g.met.D.Device.seen_is_one c.args.device.now (g.met.D.Device.told c.sync.new.self y now))
    (λ y now. c.in-Ok-sync.ensures.durable y now ∙ c.in-Ok.ensures.written (g.met.D.Device.told c.sync.new.self y now)) in
    joined d.moment d.left_since c.args.device.now c.sync.new.self c.turn.new.device (IsEither change c.args.plan.now.image)
    (weaker d.moment d.left_since c.args.device.now c.sync.new.self (IsOld change) (IsEither change c.args.plan.now.image)
    (next_call d c.args.device.now c.write_blocks.new.device c.sync.new.self (IsOld change) (c.write_blocks.ensures.any_moment change write) c.sync.ensures.time (λ y now. c.write_blocks.ensures.still change write y (c.sync.ensures.crash y now))) (λ y is. inl is))
    (subst (λ i. LeavesOnly d.moment d.left_since c.sync.new.self c.turn.new.device (IsEither change i)) c.image-image.ensures (c.turn.ensures.any_moment change turns))

pub returns-clause-any_moment : goal.returns-clause-any_moment
returns-clause-any_moment g c = λ change can.
    let d = g.D.Device in
    let image = c.image-image.result.now in
    let write = can_write_as change c.args.plan.now _ _ can image c.writes.result.now c.image-image.ensures c.writes.ensures in
    let turns =
    can_turn_as change c.args.plan.now _ _ can image c.writes.result.now c.image-image.ensures c.writes.ensures (d.may_leave c.sync.new.self) (λ y now. g.met.D.Device.seen_is_one c.args.device.now (g.met.D.Device.told c.sync.new.self y now))
    (λ y now. c.in-Ok-sync.ensures.durable y now ∙ c.in-Ok.ensures.written (g.met.D.Device.told c.sync.new.self y now)) in
    joined d.moment d.left_since c.args.device.now c.sync.new.self c.turn.new.device (IsEither change c.args.plan.now.image)
    (weaker d.moment d.left_since c.args.device.now c.sync.new.self (IsOld change) (IsEither change c.args.plan.now.image)
    (next_call d c.args.device.now c.write_blocks.new.device c.sync.new.self (IsOld change) (c.write_blocks.ensures.any_moment change write) c.sync.ensures.time (λ y now. c.write_blocks.ensures.still change write y (c.sync.ensures.crash y now))) (λ y is. inl is))
    (subst (λ i. LeavesOnly d.moment d.left_since c.sync.new.self c.turn.new.device (IsEither change i)) c.image-image.ensures (c.turn.ensures.any_moment change turns))

pub returns-clause-done : goal.returns-clause-done
returns-clause-done g c = λ change can y now.
    let image = c.image-image.result.now in
    let turns =
    can_turn_as change c.args.plan.now _ _ can image c.writes.result.now c.image-image.ensures c.writes.ensures (g.D.Device.may_leave c.sync.new.self) (λ y now. g.met.D.Device.seen_is_one c.args.device.now (g.met.D.Device.told c.sync.new.self y now))
    (λ y now. c.in-Ok-sync.ensures.durable y now ∙ c.in-Ok.ensures.written (g.met.D.Device.told c.sync.new.self y now)) in
    subst (λ i. IsNew change i y) c.image-image.ensures (c.in-Ok-turn.ensures.done change turns y now)
