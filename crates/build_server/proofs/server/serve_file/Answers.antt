use Rattle.std.proofs.Common.{vec_len, refl, sym, ap, subst}
use Rattle.table_model.specs.Bounds.{standard}
use Rattle.table_model.specs.Tables.{Tables}
use Rattle.type_store.specs.Opened.{IsOpened}
use Rattle.type_store.specs.Views.{tables_in}
use Rattle.hub.specs.Books.{BookView}
use Rattle.build_server.proofs.Leaving.{program_limits, serves_on}
use Rattle.build_server.proofs.Passes.{each_ended}
use Rattle.build_server.proofs.server.serve_file.Goals as goal

pub new-requires-2 : goal.new-requires-2
new-requires-2 g c =
    let seen = g.D.Device.seen c.args.file.device in
    let tables = ap (λ (b : BookView g.row.D.Denot). b.tables) c.new.ensures in (
      c.args.file,
      record {
        there = ap (λ (b : BookView g.row.D.Denot). b.file) c.new.ensures;
        seen = seen;
        opened = subst (λ (t : Tables). IsOpened standard seen c.args.file t) (sym tables) c.requires.opened;
        acked = ap (λ (b : BookView g.row.D.Denot). b.acked) c.new.ensures;
      },
    )

pub close-left-requires-clause-all_ended : goal.close-left-requires-clause-all_ended
close-left-requires-clause-all_ended g c = each_ended 1 c.serve_links-served.new.first.ended c.serve_links-served.ensures.left.retired

pub returns-in-Ok-new : goal.returns-in-Ok-new
returns-in-Ok-new g c =
    let served = c.serve_links-served in
    let printed = c.print_summary-printed in
    let tables = ap (λ (b : BookView g.row.D.Denot). b.tables) c.new.ensures in
    let opening = c.in-Ok-new.ensures.ok c.args.file (ap (λ (b : BookView g.row.D.Denot). b.file) c.new.ensures) in
    serves_on g.D.Device g.O.Door g.K.Sink c.args.sessions (vec_len c.args.buffers.rooms) program_limits c.args.file (tables_in c.args.tables) c.new.result.tables c.in-Ok-new.hub c.in-Ok-new.first served.new.first c.close-left.result c.args.door served.result.door c.args.sink.now printed.new.sink
    served.result.accepted served.result.door_failed printed.result c.status_behind-status.result refl refl opening tables served.ensures.left c.close-left.ensures printed.ensures.shown served.ensures.accepts printed.ensures.printed printed.ensures.writes c.status_behind-status.ensures
