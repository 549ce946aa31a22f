use Rattle.std.proofs.Common.{length, ap, sym, ◌∙◌}
use Rattle.srv_edge.proofs.Cutting.{length-cut_at}
use Rattle.srv_edge.proofs.records.RecordList.get.Goals as goal

pub returns-clause-some : goal.returns-clause-some
returns-clause-some c =
    let n = ap length c.deref-2.ensures.value ∙ sym (length-cut_at c.self.inside.bytes.items 0 c.self.inside.ends.items) ∙ ap length c.self.view_is in
    rw (← n) c.record_at.ensures.some
