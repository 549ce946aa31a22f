use Rattle.std.proofs.Common.{◌∙◌, sym, ap, subst}
use Rattle.hub.specs.Books.{BookView}
use Rattle.file_commands.specs.Session.{ServesBook}
use Rattle.file_commands.proofs.session.serve_file.Goals as goal

pub returns : goal.returns
returns g c =
    let end = c.serve_book-end in
    record {
      book = end.new.book;
      view = c.in-Some.file;
      there = sym (ap (λ (b : BookView g.row.D.Denot). b.file) c.book.view_is) ∙ c.in-Some.is;
      device_is = sym c.close.ensures.device;
      serves = subst (λ (b : BookView g.row.D.Denot). ServesBook g.D.Device g.S.Source g.K.Sink b end.new.book c.args.source.now end.new.source c.args.sink.now end.new.sink end.result) c.new-book.ensures end.ensures;
    }
