use Rattle.std.proofs.Common.{◌∙◌, Ok, sym, ap, inr, nat_le, length}
use Rattle.srv_edge.specs.declared.limit.TheConstants.{SESSION_BYTES}
use Rattle.request_frames.specs.Serving.{end_of}
use Rattle.type_store.specs.Views.{tables_in}
use Rattle.program_status.specs.Statuses.{status_of}
use Rattle.file_commands.specs.Session.{status_by}
use Rattle.file_commands.proofs.Serving.{fault_completes, serves_file}
use Rattle.file_commands.proofs.session.session.Goals as goal

pub returns-in-Ok-open-clause-session : goal.returns-in-Ok-open-clause-session
returns-in-Ok-open-clause-session g c =
    let opened = c.in-Ok-open.ensures in
    let end = c.serve_file-end in
    inr (serves_file g.D.Device g.S.Source g.K.Sink c.args.device end.result.1 c.args.source.now end.new.source c.args.sink.now end.new.sink c.status_of_end.result c.in-Ok-open.file (tables_in c.in-Ok-open.tables) end.result.0
    (λ tells. (opened.told tells).1) opened.shape opened.opened opened.shown opened.only_reads c.status_of_end.ensures end.ensures)

pub returns-in-Ok-open-clause-completes : goal.returns-in-Ok-open-clause-completes
returns-in-Ok-open-clause-completes g c = λ source_tells device_tells no_read no_write no_disk frames tail are.
    let end = end_of (nat_le SESSION_BYTES (length (g.S.Source.left c.args.source.now))) tail in
    inr (c.status_of_end.ensures ∙ ap status_of (c.serve_file-end.ensures.serves.ends source_tells no_read no_write frames tail are)
    ∙ sym (ap (λ told. status_by told end) (c.in-Ok-open.ensures.told device_tells).1))

pub returns-clause-completes : goal.returns-clause-completes
returns-clause-completes g c = λ source_tells device_tells no_read no_write no_disk frames tail are.
    fault_completes g.D.Device c.args.device c.in-Err.device c.in-Err.fault c.status_of_fault.result (end_of (nat_le SESSION_BYTES (length (g.S.Source.left c.args.source.now))) tail)
    c.status_of_fault.ensures (c.in-Err.ensures.told device_tells) c.in-Err.ensures.disk_fault.rose no_disk
