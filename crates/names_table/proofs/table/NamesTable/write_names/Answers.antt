use Rattle.std.proofs.Common.{◌≡◌, Ok, IfOk, subst}
use Rattle.names_table.specs.Reading.{reading}
use Rattle.names_table.proofs.Texts.{written_read}
use Rattle.names_table.proofs.table.NamesTable.write_names.Goals as goal

pub returns-clause-read : goal.returns-clause-read
returns-clause-read c =
    subst (λ table. IfOk c.names_text_from.result (λ text. reading table.max_bytes text.items ≡ Ok table)) c.self.view_is
    (written_read c.names_text_from.result
    (record { max_bytes = c.self.inside.max_bytes; version = c.self.inside.version; names = c.self.inside.list }) c.self.invariant.0 c.names_text_from.ensures)
