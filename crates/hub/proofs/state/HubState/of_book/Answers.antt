use Rattle.std.proofs.Common.{sym, ap, ◌∙◌, Some, refl}
use Rattle.type_store.specs.Views.{tables_in}
use Rattle.hub.proofs.Opening.{book_is, book_opened}
use Rattle.hub.proofs.state.HubState.of_book.Goals as goal

pub invariant_of-result : goal.invariant_of-result
invariant_of-result g c =
    let book = sym c.book.view_is ∙ book_is (tables_in c.book.inside.tables) (tables_in c.book.inside.tables) c.book.inside.file (Some c.in-Some.file) c.book.inside.acked c.book.inside.acked refl c.in-Some.is refl in
    rw c.of-opened.ensures
    (book_opened g.D.Device c.args.limits c.args.book c.requires.0 c.in-Some.file (tables_in c.book.inside.tables) (tables_in c.of-first.result.value) c.new.result.words c.new.result.spare c.book.inside.acked c.age-age.result c.counts_of-start.result.types c.counts_of-start.result.items c.counts_of-start.result.names
    c.args.limits.few_calls c.requires.1 book (ap tables_in c.of-first.ensures) c.new.ensures.words c.new.ensures.spare c.age-age.ensures.age c.counts_of-start.ensures.types c.counts_of-start.ensures.items c.counts_of-start.ensures.names)
