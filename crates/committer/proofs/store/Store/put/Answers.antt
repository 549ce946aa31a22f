use Rattle.std.proofs.Common.{◌≡◌, None, Err, subst, sym, ap, ◌∙◌}
use Rattle.srv_edge.specs.Disk.{LeavesOnly}
use Rattle.msf_image.specs.declared.image.Image.{Image}
use Rattle.committer.specs.Change.{Change, IsEither}
use Rattle.committer.specs.Left.{IsPut}
use Rattle.committer.specs.Stored.{IsDoubt, IsIn, IsSettled, IsSettledFile, Stored, doubt, file_of, newest, settled}
use Rattle.committer.specs.Writing.{CanPut, IsPlanned}
use Rattle.committer.proofs.Changing.{in_doubt, new_settled, none_before, old_settled, put_change, put_doubt, put_settled, settled_puts}
use Rattle.committer.proofs.Storing.{newest_is}
use Rattle.committer.proofs.store.Store.put.Goals as goal

pub invariant_of-self : goal.invariant_of-self
invariant_of-self g c =
    let s = c.self.inside in
    let d = g.D.Device in
    let plan = c.args.plan in
    let last = c.write_plan.new.device in
    let none : s.before ≡ None = none_before s.before s.image (subst (λ (t : Stored g.row.D.Denot). IsSettledFile t.file) (sym c.self.view_is) c.requires.settled) in
    let is = subst (λ b. IsIn s.limit (file_of b s.image) (d.seen s.device) (d.may_leave s.device)) none c.self.invariant.holds in
    let planned = subst (λ (i : Image). IsPlanned s.limit i plan) (newest_is s.before s.image) (subst (λ (t : Stored g.row.D.Denot). IsPlanned t.limit (newest t.file) plan) (sym c.self.view_is) c.requires.planned) in
    let can = settled_puts s.limit s.image (d.seen s.device) (d.may_leave s.device) plan is planned in
    record {
      most = c.self.invariant.most;
      holds = subst (λ b. IsIn s.limit (file_of b c.into_image.result) (d.seen last) (d.may_leave last)) (sym none)
          (subst (λ (i : Image). IsSettled s.limit i (d.seen last) (d.may_leave last)) (sym c.into_image.ensures)
          (new_settled (put_change s.limit s.image (d.seen s.device) plan) plan.image (d.seen last) (d.may_leave last) (λ y now. g.met.D.Device.seen_is_one last (g.met.D.Device.told last y now)) planned.1.whole planned.1.limited (c.in-Ok.ensures.done _ can)));
    }

pub invariant_of-self-in-Settled-1 : goal.invariant_of-self-in-Settled-1
invariant_of-self-in-Settled-1 g c =
    let s = c.self.inside in
    let d = g.D.Device in
    let plan = c.args.plan in
    let last = c.write_plan.new.device in
    let none : s.before ≡ None = none_before s.before s.image (subst (λ (t : Stored g.row.D.Denot). IsSettledFile t.file) (sym c.self.view_is) c.requires.settled) in
    let is = subst (λ b. IsIn s.limit (file_of b s.image) (d.seen s.device) (d.may_leave s.device)) none c.self.invariant.holds in
    let planned = subst (λ (i : Image). IsPlanned s.limit i plan) (newest_is s.before s.image) (subst (λ (t : Stored g.row.D.Denot). IsPlanned t.limit (newest t.file) plan) (sym c.self.view_is) c.requires.planned) in
    let can = settled_puts s.limit s.image (d.seen s.device) (d.may_leave s.device) plan is planned in
    record {
      most = c.self.invariant.most;
      holds = subst (λ b. IsIn s.limit (file_of b s.image) (d.seen last) (d.may_leave last)) (sym none)
          (old_settled (put_change s.limit s.image (d.seen s.device) plan) plan.image (d.seen last) (d.may_leave last) (λ y now. g.met.D.Device.seen_is_one last (g.met.D.Device.told last y now)) is.whole is.limited (c.in-Err-Settled.ensures.settled _ can (ap Err c.in-Err-Settled.field-0-is)));
    }

pub invariant_of-self-in-Err-Doubt : goal.invariant_of-self-in-Err-Doubt
invariant_of-self-in-Err-Doubt g c =
    let s = c.self.inside in
    let d = g.D.Device in
    let plan = c.args.plan in
    let last = c.write_plan.new.device in
    let none : s.before ≡ None = none_before s.before s.image (subst (λ (t : Stored g.row.D.Denot). IsSettledFile t.file) (sym c.self.view_is) c.requires.settled) in
    let is = subst (λ b. IsIn s.limit (file_of b s.image) (d.seen s.device) (d.may_leave s.device)) none c.self.invariant.holds in
    let planned = subst (λ (i : Image). IsPlanned s.limit i plan) (newest_is s.before s.image) (subst (λ (t : Stored g.row.D.Denot). IsPlanned t.limit (newest t.file) plan) (sym c.self.view_is) c.requires.planned) in
    let can = settled_puts s.limit s.image (d.seen s.device) (d.may_leave s.device) plan is planned in
    record {
      most = c.self.invariant.most;
      holds = subst (λ (i : Image). IsDoubt s.limit i c.replace.new.dest (d.seen last) (d.may_leave last)) (sym c.replace.ensures.value)
          (subst (λ (i : Image). IsDoubt s.limit s.image i (d.seen last) (d.may_leave last)) (sym (c.replace.ensures.after ∙ c.into_image-in-Err-Doubt.ensures))
          (in_doubt (put_change s.limit s.image (d.seen s.device) plan) plan.image (d.seen last) (d.may_leave last) (λ y now. g.met.D.Device.seen_is_one last (g.met.D.Device.told last y now)) is.whole planned.1.whole planned.1.limited (record { block = planned.1.block; unknown = planned.1.unknown })
          (c.in-Err-Doubt.ensures.doubt _ can (ap Err c.in-Err-Doubt.field-0-is))));
    }

pub returns-in-Ok-clause-any_moment : goal.returns-in-Ok-clause-any_moment
returns-in-Ok-clause-any_moment g c =
    let d = g.D.Device in
    subst (λ (t : Stored g.row.D.Denot). (change : Change) → CanPut change c.args.plan (d.seen t.device) (d.may_leave t.device) → LeavesOnly d.moment d.left_since t.device c.write_plan.new.device (IsEither change c.args.plan.image)) c.self.view_is c.write_plan.ensures.any_moment

pub returns-in-Err-Settled-clause-any_moment : goal.returns-in-Err-Settled-clause-any_moment
returns-in-Err-Settled-clause-any_moment g c =
    let d = g.D.Device in
    subst (λ (t : Stored g.row.D.Denot). (change : Change) → CanPut change c.args.plan (d.seen t.device) (d.may_leave t.device) → LeavesOnly d.moment d.left_since t.device c.write_plan.new.device (IsEither change c.args.plan.image)) c.self.view_is c.write_plan.ensures.any_moment

pub returns-in-Err-Doubt-clause-any_moment : goal.returns-in-Err-Doubt-clause-any_moment
returns-in-Err-Doubt-clause-any_moment g c =
    let d = g.D.Device in
    subst (λ (t : Stored g.row.D.Denot). (change : Change) → CanPut change c.args.plan (d.seen t.device) (d.may_leave t.device) → LeavesOnly d.moment d.left_since t.device c.write_plan.new.device (IsEither change c.args.plan.image)) c.self.view_is c.write_plan.ensures.any_moment

pub returns-in-Err-Settled-clause-left : goal.returns-in-Err-Settled-clause-left
returns-in-Err-Settled-clause-left g c =
    let s = c.self.inside in
    let d = g.D.Device in
    let plan = c.args.plan in
    let last = c.write_plan.new.device in
    let none : s.before ≡ None = none_before s.before s.image (subst (λ (t : Stored g.row.D.Denot). IsSettledFile t.file) (sym c.self.view_is) c.requires.settled) in
    let is = subst (λ b. IsIn s.limit (file_of b s.image) (d.seen s.device) (d.may_leave s.device)) none c.self.invariant.holds in
    let planned = subst (λ (i : Image). IsPlanned s.limit i plan) (newest_is s.before s.image) (subst (λ (t : Stored g.row.D.Denot). IsPlanned t.limit (newest t.file) plan) (sym c.self.view_is) c.requires.planned) in
    let can = settled_puts s.limit s.image (d.seen s.device) (d.may_leave s.device) plan is planned in
    subst (λ (t : Stored g.row.D.Denot). IsPut d.tells t.file (d.seen t.device) plan (file_of s.before s.image) (d.seen last)) c.self.view_is
    (subst (λ b. IsPut d.tells (file_of b s.image) (d.seen s.device) plan (file_of b s.image) (d.seen last)) (sym none)
    (put_settled d.tells s.limit s.image (d.seen s.device) plan (d.seen last) (λ tells. c.in-Err-Settled.ensures.settled _ can (ap Err c.in-Err-Settled.field-0-is) (d.seen last) (g.met.D.Device.seen_is_one last tells))))

pub returns-in-Err-Doubt-clause-left : goal.returns-in-Err-Doubt-clause-left
returns-in-Err-Doubt-clause-left g c =
    let s = c.self.inside in
    let d = g.D.Device in
    let plan = c.args.plan in
    let last = c.write_plan.new.device in
    let none : s.before ≡ None = none_before s.before s.image (subst (λ (t : Stored g.row.D.Denot). IsSettledFile t.file) (sym c.self.view_is) c.requires.settled) in
    let is = subst (λ b. IsIn s.limit (file_of b s.image) (d.seen s.device) (d.may_leave s.device)) none c.self.invariant.holds in
    let planned = subst (λ (i : Image). IsPlanned s.limit i plan) (newest_is s.before s.image) (subst (λ (t : Stored g.row.D.Denot). IsPlanned t.limit (newest t.file) plan) (sym c.self.view_is) c.requires.planned) in
    let can = settled_puts s.limit s.image (d.seen s.device) (d.may_leave s.device) plan is planned in
    let both : doubt c.replace.result c.replace.new.dest ≡ doubt s.image plan.image = ap (λ i. doubt i c.replace.new.dest) c.replace.ensures.value ∙ ap (doubt s.image) (c.replace.ensures.after ∙ c.into_image-in-Err-Doubt.ensures) in
    subst (λ (t : Stored g.row.D.Denot). IsPut d.tells t.file (d.seen t.device) plan (doubt c.replace.result c.replace.new.dest) (d.seen last)) c.self.view_is
    (subst (λ b. IsPut d.tells (file_of b s.image) (d.seen s.device) plan (doubt c.replace.result c.replace.new.dest) (d.seen last)) (sym none)
    (subst (λ f. IsPut d.tells (settled s.image) (d.seen s.device) plan f (d.seen last)) (sym both)
    (put_doubt d.tells s.limit s.image (d.seen s.device) plan (d.seen last) planned.1.whole (λ tells. c.in-Err-Doubt.ensures.doubt _ can (ap Err c.in-Err-Doubt.field-0-is) (d.seen last) (g.met.D.Device.seen_is_one last tells)))))
