use Rattle.std.proofs.Common.{length, ap, ◌∙◌, arith}
use Rattle.std.proofs.lemmas.Grind.{common_steps}
use Rattle.names_table.specs.Strings.{names_cut}
use Rattle.names_table.proofs.Offsets.{length-le}
use Rattle.names_table.proofs.Strings.{length-begin}
use Rattle.names_table.proofs.list.NameList.len.Goals as goal

pub overflow_cast-result : goal.overflow_cast-result
overflow_cast-result c =
    let n = length-begin c.self.inside.strings.items c.self.inside.starts.items c.self.invariant in
    let few = length-le (names_cut c.self.inside.strings.items) in
    grind (arith, common_steps, n, few, c.self.invariant.short)

pub returns : goal.returns
returns c =
    let n = length-begin c.self.inside.strings.items c.self.inside.starts.items c.self.invariant ∙ ap length c.self.view_is in
    grind (arith, common_steps, n)
