use Rattle.std.proofs.Common.{◌+◌, ◌∙◌, ap, inl, inr, refl}
use Rattle.srv_edge.specs.declared.failed.Refusal.TheVariants.{DiskFault}
use Rattle.request_frames.specs.Refusals.{refusal_message}
use Rattle.table_model.specs.Cut.{Cut}
use Rattle.type_store.specs.Files.{FileView}
use Rattle.type_store.specs.Views.{tables_in}
use Rattle.client_session.proofs.Answering.{failed_commit, failed_on, settled_on}
use Rattle.client_session.proofs.solo.commit_to.Goals as goal

pub returns-in-Ok-write-clause-goes_on : goal.returns-in-Ok-write-clause-goes_on
returns-in-Ok-write-clause-goes_on g c =
    settled_on (c.args.file.now.last + 1) (tables_in c.args.tables.now) c.in-Ok.pending.cut c.write.new.self.file c.in-Ok.ensures.ok.0 c.in-Ok-write.ensures.ok.1

pub returns-in-Err-clause-goes_on : goal.returns-in-Err-clause-goes_on
returns-in-Err-clause-goes_on g c =
    let old = c.args.file.now in
    let same = ap (λ (v : FileView g.row.D.Denot). v.file) c.in-Ok.ensures.ok.1 in
    failed_on (old.last + 1) (tables_in c.args.tables.now) c.in-Ok.pending.cut old.file c.prepare.new.self.file c.write.new.self.file c.in-Ok.ensures.ok.0 same c.requires.goes_on c.in-Err.ensures.err.1

pub returns-in-Err-clause-commits : goal.returns-in-Err-clause-commits
returns-in-Err-clause-commits g c =
    let old = c.args.file.now in
    let fault = c.in-Err.ensures in
    let number = fault.err.0 ∙ ap (λ (cut : Cut). cut.number) c.in-Ok.ensures.ok.0 in
    inr (inl (
      ap (λ n. refusal_message (DiskFault n)) number,
      failed_commit g.D.Device old c.prepare.new.self c.write.new.self (tables_in c.args.tables.now) c.in-Ok.pending c.in-Ok.ensures.ok.0 c.in-Ok.ensures.ok.1 c.in-Ok.ensures.may_begin
          fault.any_moment fault.shown fault.err.1 fault.stays fault.cause.never_falls (fault.cause.rose refl),
    ))
