use Rattle.std.proofs.Common.{arith}
use Rattle.names_table.proofs.Growing.{on_both}
use Rattle.names_table.proofs.write.put_first.Goals as goal

pub returns : goal.returns
returns c =
    on_both c.extend_from_slice-3.result c.args.text.now.items c.extend_from_slice-2.new.self.items c.extend_from_slice-3.new.self.items c.args.front.now c.args.back.now c.args.count
    (omega (arith, c.if-count-front.false)) c.in_ok-extend_from_slice.ensures.items c.extend_from_slice-3.ensures.items
