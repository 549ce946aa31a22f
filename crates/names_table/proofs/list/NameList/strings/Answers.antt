use Rattle.std.proofs.Common.{◌+◌, length, ap, ◌∙◌}
use Rattle.names_table.specs.Names.{bytes_of}
use Rattle.names_table.proofs.Strings.{length-bytes}
use Rattle.names_table.proofs.list.NameList.strings.Goals as goal

pub returns-clause-bytes : goal.returns-clause-bytes
returns-clause-bytes c =
    ap (λ bytes. length bytes + 1) c.deref.ensures.value ∙ length-bytes c.self.inside.strings.items c.self.inside.starts.items c.self.invariant
    ∙ ap bytes_of c.self.view_is
