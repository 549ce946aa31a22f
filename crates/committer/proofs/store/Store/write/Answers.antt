use Rattle.std.proofs.Common.{IsTrue, inl, inr, subst, ap, ◌∙◌}
use Rattle.std.proofs.lemmas.Result.{on_err_weaker, on_ok_weaker}
use Rattle.srv_edge.specs.Disk.{LeavesOnly}
use Rattle.srv_edge.proofs.Moments.{joined, weaker}
use Rattle.cow_streams.specs.Planned.{Planned}
use Rattle.committer.specs.Change.{Change, IsEither}
use Rattle.committer.specs.Left.{IsPut, ShowsEither, file_after}
use Rattle.committer.specs.Stored.{Shows, newest}
use Rattle.committer.specs.Writing.{CanPut}
use Rattle.committer.proofs.Changing.{either_shows, put_behind, told_putting, write_change, write_puts, written_behind}
use Rattle.committer.proofs.store.Store.write.Goals as goal

pub returns-clause-any_moment : goal.returns-clause-any_moment
returns-clause-any_moment g c =
    let d = g.D.Device in
    let old = c.args.self.now in
    let mid = c.settle.new.self in
    let last = c.put.new.self in
    let plan = c.args.prepared in
    let first = d.seen old.device in
    let settle = c.in_ok-settle.ensures in
    let can = write_puts d.tells old.limit old.file first mid.file (d.seen mid.device) plan settle.done settle.seen (d.may_leave mid.device) (g.met.D.Device.told mid.device) settle.ready c.requires.planned in
    let run = subst (λ (p : Planned). (change : Change) → CanPut change p (d.seen mid.device) (d.may_leave mid.device) → LeavesOnly d.moment d.left_since mid.device last.device (IsEither change p.image)) c.into_plan.ensures c.put.ensures.any_moment in
    joined d.moment d.left_since old.device mid.device last.device (ShowsEither old.limit old.file first plan)
    (weaker d.moment d.left_since old.device mid.device (Shows old.limit old.file first) (ShowsEither old.limit old.file first plan) settle.any_moment (λ y shows. inl shows))
    (weaker d.moment d.left_since mid.device last.device (IsEither (write_change old.limit old.file first plan) plan.image) (ShowsEither old.limit old.file first plan) (run (write_change old.limit old.file first plan) can)
    (either_shows d.tells old.limit old.file first mid.file (d.seen mid.device) plan settle.done settle.seen))

pub returns-clause-only : goal.returns-clause-only
returns-clause-only g c =
    let d = g.D.Device in
    let old = c.args.self.now in
    let mid = c.settle.new.self in
    let settle = c.in_ok-settle.ensures in
    on_ok_weaker c.put.result (λ only y now.
    only y now ∙ ap (file_after mid.file (d.seen mid.device)) c.into_plan.ensures
    ∙ written_behind d.tells old.limit old.file (d.seen old.device) mid.file (d.seen mid.device) c.args.prepared settle.done settle.seen (g.met.D.Device.told c.put.new.self.device y now)) c.put.ensures.only

pub returns-clause-left : goal.returns-clause-left
returns-clause-left g c =
    let d = g.D.Device in
    let old = c.args.self.now in
    let mid = c.settle.new.self in
    let last = c.put.new.self in
    let settle = c.in_ok-settle.ensures in
    on_err_weaker c.put.result (λ put.
    inr (put_behind d.tells old.limit old.file (d.seen old.device) mid.file (d.seen mid.device) c.args.prepared settle.done settle.seen last.file (d.seen last.device)
    (subst (λ (p : Planned). IsPut d.tells mid.file (d.seen mid.device) p last.file (d.seen last.device)) c.into_plan.ensures put))) c.put.ensures.left

pub returns-clause-told : goal.returns-clause-told
returns-clause-told g c =
    let d = g.D.Device in
    let old = c.args.self.now in
    let mid = c.settle.new.self in
    let last = c.put.new.self in
    let plan = c.args.prepared in
    let first = d.seen old.device in
    let settle = c.in_ok-settle.ensures in
    let can = write_puts d.tells old.limit old.file first mid.file (d.seen mid.device) plan settle.done settle.seen (d.may_leave mid.device) (g.met.D.Device.told mid.device) settle.ready c.requires.planned in
    let run = subst (λ (p : Planned). (change : Change) → CanPut change p (d.seen mid.device) (d.may_leave mid.device) → LeavesOnly d.moment d.left_since mid.device last.device (IsEither change p.image)) c.into_plan.ensures c.put.ensures.any_moment in
    joined d.moment d.left_since old.device mid.device last.device (λ _. IsTrue d.tells) settle.told
    (told_putting d.moment d.left_since old.limit (d.may_leave mid.device) (d.seen mid.device) mid.device last.device d.tells (newest old.file) plan (g.met.D.Device.told mid.device) settle.ready.whole c.requires.planned _ (run _ can) run)
