use Rattle.chain_index.proofs.Linking.{AreLinked-none}
use Rattle.chain_index.proofs.links.link_all.Goals as goal

pub loop-number-init : goal.loop-number-init
loop-number-init c = AreLinked-none c.args.hashes.now c.args.heads.now c.args.nexts.now c.requires.empty
