use Rattle.std.proofs.Common.{◌∙◌, ap}
use Rattle.msf_image.specs.Packed.{present}
use Rattle.cow_streams.specs.Planned.{Planned}
use Rattle.committer.proofs.Creating.{created, created_reads, created_settled, new_writable}
use Rattle.committer.proofs.store.Store.create.Goals as goal

pub write_plan-requires : goal.write_plan-requires
write_plan-requires g c = record { writable = new_writable c.args.block (present c.args.streams.now) c.requires.packable c.in-Ok.plan c.in-Ok.ensures }

pub returns-clause-only : goal.returns-clause-only
returns-clause-only g c = λ y now.
    let d = g.D.Device in
    let last = c.write_plan.new.device in
    created c.args.block (present c.args.streams.now) c.requires.packable c.in-Ok.plan (d.seen c.args.device) y c.in-Ok.ensures (c.requires.empty (g.met.D.Device.told last y now)) (c.in-Ok-write_plan.ensures.only y now)

pub invariant_of-result : goal.invariant_of-result
invariant_of-result g c =
    let d = g.D.Device in
    let last = c.write_plan.new.device in
    let streams = present c.args.streams.now in
    record {
      most = c.requires.most;
      holds = created_settled c.args.block streams c.requires.packable c.args.limit c.into_image.result (d.seen last) (d.may_leave last) c.requires.within (c.into_image.ensures ∙ ap (λ (p : Planned). p.image) c.in-Ok.ensures)
          (λ y now. g.met.D.Device.seen_is_one last (g.met.D.Device.told last y now))
          (λ y now. created c.args.block streams c.requires.packable c.in-Ok.plan (d.seen c.args.device) y c.in-Ok.ensures (c.requires.empty (g.met.D.Device.told last y now)) (c.in-Ok-write_plan.ensures.only y now));
    }

pub returns-clause-reads : goal.returns-clause-reads
returns-clause-reads g c = λ tells.
    let d = g.D.Device in
    let last = c.write_plan.new.device in
    let streams = present c.args.streams.now in
    created_reads c.args.block streams c.requires.packable c.args.limit c.into_image.result (d.seen last) c.requires.within (c.into_image.ensures ∙ ap (λ (p : Planned). p.image) c.in-Ok.ensures)
    (created c.args.block streams c.requires.packable c.in-Ok.plan (d.seen c.args.device) (d.seen last) c.in-Ok.ensures (c.requires.empty tells) (c.in-Ok-write_plan.ensures.only (d.seen last) (g.met.D.Device.seen_is_one last tells)))
