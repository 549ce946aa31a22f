use Rattle.std.proofs.Common.{◌≡◌, ◌+◌, ◌*◌, ap, ◌∙◌}
use Rattle.cow_streams.proofs.LayoutLoops.{map_step, map_write}
use Rattle.cow_streams.proofs.writing.put_map.Goals as goal

pub loop-j-preserved : goal.loop-j-preserved
loop-j-preserved c =
    let s = c.args.head.now in
    let text = c.args.text.now in
    let j = c.loop-j.j in
    let made : c.new.result ≡ map_write s text j = c.new.ensures ∙ ap (λ x. record { block = s.map + j * s.block; bytes = x }) c.in_ok-block.ensures in
    c.in_ok-push.ensures.items ∙ map_step (map_write s text) j c.new.result c.args.writes.now.items c.loop-j.writes.items c.loop-j.invariant made
