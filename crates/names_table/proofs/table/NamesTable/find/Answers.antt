use Rattle.std.proofs.Common.{ap, ◌∙◌}
use Rattle.names_table.specs.Entries.{first_of}
use Rattle.names_table.proofs.Offsets.{first-behind}
use Rattle.names_table.proofs.table.NamesTable.find.Goals as goal

pub returns : goal.returns
returns c =
    let name = c.args.name.now in
    c.copied.ensures ∙ c.get.ensures.value ∙ c.self.invariant.1 name
    ∙ ap (λ t. first_of t.names name) c.self.view_is ∙ first-behind c.args.self.now name c.if-is_empty.ensures
