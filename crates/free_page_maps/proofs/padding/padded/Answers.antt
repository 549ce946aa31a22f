use Rattle.std.proofs.Common.{◌≡◌, [], ◌∷◌, ◌++◌, arith}
use Rattle.std.proofs.lemmas.Grind.{common_steps}
use Rattle.free_page_maps.proofs.MapTexts.{padded_text-more}
use Rattle.free_page_maps.proofs.padding.padded.Goals as goal

pub loop-i-preserved : goal.loop-i-preserved
loop-i-preserved c =
    let more : c.push.new.self.items ≡ c.loop-i.maps.items ++ c.padded_byte.result ∷ [] = grind (arith, common_steps) in
    padded_text-more c.args.blocks c.args.bits.now c.loop-i.i c.padded_byte.result c.loop-i.maps.items c.push.new.self.items c.loop-i.invariant c.padded_byte.ensures more
