use Rattle.std.proofs.Common.{◌≡◌, ap, ◌∙◌}
use Rattle.msf_image.specs.Packed.{given_block}
use Rattle.cow_streams.specs.Packing.{given_write}
use Rattle.cow_streams.proofs.LayoutLoops.{map_step}
use Rattle.cow_streams.proofs.packing.put_given.Goals as goal

pub loop-k-preserved : goal.loop-k-preserved
loop-k-preserved c =
    let size = c.args.block in
    let content = c.args.content.now in
    let k = c.loop-k.k in
    let made : c.new.result ≡ given_write size content k =
    c.new.ensures ∙ ap (λ b. record { block = b; bytes = c.in_ok-bytes.bytes.items }) c.given_block.ensures ∙ ap (λ x. record { block = given_block size k; bytes = x }) c.in_ok-bytes.ensures in
    c.in_ok-push.ensures.items ∙ map_step (given_write size content) k c.new.result c.args.writes.now.items c.loop-k.writes.items c.loop-k.invariant made
