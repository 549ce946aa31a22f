use Rattle.type_store.specs.Views.{tables_in}
use Rattle.file_commands.proofs.Drawing.{new_book}
use Rattle.file_commands.proofs.draw.new_book.Goals as goal

pub returns-in-Ok : goal.returns-in-Ok
returns-in-Ok c =
    let made = c.in-Ok.ensures in
    new_book _ c.in-Ok.file (tables_in c.in-Ok.tables) c.new-in-Ok.result c.new-in-Ok.ensures made.opened made.image made.cut made.shown
