use Rattle.std.proofs.Common.{sym, refl}
use Rattle.type_store.specs.Views.{tables_in}
use Rattle.hub.specs.Bases.{basis_of}
use Rattle.hub.specs.Stories.{entries_in}
use Rattle.hub.proofs.Opening.{book_kept}
use Rattle.hub.proofs.Reading.{words_read}
use Rattle.hub.proofs.state.HubState.into_ended.Goals as goal

pub invariant_of-book : goal.invariant_of-book
invariant_of-book g c = book_kept g.D.Device (basis_of g.D.Device c.self.inside.limits c.self.inside.opened.value (tables_in c.self.inside.first.value)) (entries_in (tables_in c.self.inside.tables) c.self.inside.journal.words) (tables_in c.self.inside.tables) c.self.inside.journal.spare c.self.inside.acked c.self.inside.last c.self.inside.file c.self.invariant.0

pub returns : goal.returns
returns g c =
    let i = c.self.invariant.0 in
    rw (← c.self.view_is) (record {
      start_is = i.start;
      legal = i.legal;
      words = sym (words_read (tables_in c.self.inside.tables) c.self.inside.journal.words);
      tables = i.tables;
      acked = i.acked;
      from = c.self.invariant.1;
      file = refl;
      shelved = i.shelved;
    })
