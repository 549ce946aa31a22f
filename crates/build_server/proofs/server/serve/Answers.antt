use Rattle.std.proofs.Common.{vec_len}
use Rattle.type_store.specs.Views.{tables_in}
use Rattle.build_server.proofs.Leaving.{runs_over}
use Rattle.build_server.proofs.server.serve.Goals as goal

pub returns-in-Ok-open : goal.returns-in-Ok-open
returns-in-Ok-open g c =
    let opened = c.in-Ok-open.ensures in
    let over = c.serve_file in
    runs_over g.D.Device g.O.Door g.K.Sink c.args.sessions c.args.workers (vec_len c.in-Ok.buffers.rooms) c.args.device c.in-Ok-open.file (tables_in c.in-Ok-open.tables) c.args.door over.result.2 c.args.sink.now over.new.sink over.result.0 over.result.1
    c.in-Ok.ensures.rooms opened.opened (λ tells. (opened.told tells).1) opened.shape opened.only_reads over.ensures
