use Rattle.std.proofs.Common.{ap, ◌∙◌, arith}
use Rattle.std.proofs.lemmas.Grind.{common_steps}
use Rattle.names_table.specs.Names.{bytes_of}
use Rattle.names_table.proofs.Strings.{length-bytes}
use Rattle.names_table.proofs.list.NameList.bytes.Goals as goal

pub overflow_cast-result : goal.overflow_cast-result
overflow_cast-result c =
    let n = length-bytes c.self.inside.strings.items c.self.inside.starts.items c.self.invariant in
    grind (arith, common_steps, n, c.self.invariant.short)

pub overflow_add-result : goal.overflow_add-result
overflow_add-result c =
    let n = length-bytes c.self.inside.strings.items c.self.inside.starts.items c.self.invariant in
    grind (arith, common_steps, n, c.self.invariant.short)

pub returns : goal.returns
returns c =
    let n = length-bytes c.self.inside.strings.items c.self.inside.starts.items c.self.invariant ∙ ap bytes_of c.self.view_is in
    grind (arith, common_steps, n)
