use Rattle.std.proofs.Common.{refl}
use Rattle.hub.proofs.Ending.{done_ill, done_well, out_moments}
use Rattle.hub.proofs.under_way.Out.write_out.Goals as goal

pub invariant_of-t-10 : goal.invariant_of-t-10
invariant_of-t-10 g c = done_well g.D.Device c.self.inside.kept.value.story.basis c.self.inside.kept.value.story.entries c.self.inside.pending c.in-Ok.number c.self.inside.file c.write.new.self c.self.invariant c.in-Ok.ensures.ok c.write.ensures.stays c.write.ensures.cause.never_falls c.write.ensures.loans

pub invariant_of-result : goal.invariant_of-result
invariant_of-result g c = done_ill g.D.Device c.self.inside.kept.value.story.basis c.self.inside.kept.value.story.entries c.self.inside.pending c.in-Err.field-0.number c.self.inside.file c.write.new.self c.self.invariant c.in-Err.ensures.err c.write.ensures.stays (c.in-Err.ensures.cause.rose refl) c.write.ensures.loans

pub returns-in-Ok-clause-any_moment : goal.returns-in-Ok-clause-any_moment
returns-in-Ok-clause-any_moment g c =
    rw (← c.self.view_is) (out_moments g.D.Device c.self.inside.kept.value.story.basis c.self.inside.kept.value.story.entries c.self.inside.pending c.self.inside.file g.D.Device.moment g.D.Device.left_since c.self.inside.file.device c.write.new.self.device c.self.invariant c.write.ensures.any_moment)

pub returns-in-Err-clause-any_moment : goal.returns-in-Err-clause-any_moment
returns-in-Err-clause-any_moment g c =
    rw (← c.self.view_is) (out_moments g.D.Device c.self.inside.kept.value.story.basis c.self.inside.kept.value.story.entries c.self.inside.pending c.self.inside.file g.D.Device.moment g.D.Device.left_since c.self.inside.file.device c.write.new.self.device c.self.invariant c.write.ensures.any_moment)
