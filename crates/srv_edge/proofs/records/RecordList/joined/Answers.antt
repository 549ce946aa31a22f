use Rattle.std.proofs.Common.{sym, ap, ◌∙◌, length, arith}
use Rattle.srv_edge.specs.Records.{joined}
use Rattle.srv_edge.proofs.Cutting.{joined-cut_at}
use Rattle.srv_edge.proofs.records.RecordList.joined.Goals as goal

pub returns : goal.returns
returns c = record {
  bytes = c.deref.ensures.value ∙ sym (joined-cut_at c.self.inside.bytes.items 0 c.self.inside.ends.items c.self.invariant.rises) ∙ ap joined c.self.view_is;
  few = omega (arith, ap length c.deref.ensures.value, c.self.invariant.short);
}
