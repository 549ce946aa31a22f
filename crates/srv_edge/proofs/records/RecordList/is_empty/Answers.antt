use Rattle.std.proofs.Common.{length, ap, sym, ◌∙◌, arith}
use Rattle.std.proofs.lemmas.Grind.{common_steps}
use Rattle.std.proofs.lemmas.List.{nil_from_length}
use Rattle.srv_edge.proofs.Cutting.{length-cut_at}
use Rattle.srv_edge.proofs.records.RecordList.is_empty.Goals as goal

pub returns : goal.returns
returns c =
    let n = sym (length-cut_at c.self.inside.bytes.items 0 c.self.inside.ends.items) ∙ ap length c.self.view_is in
    grind (arith, common_steps, nil_from_length, n)
