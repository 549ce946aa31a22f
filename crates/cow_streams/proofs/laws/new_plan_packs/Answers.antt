use Rattle.cow_streams.proofs.NewFile.{packs, placed}
use Rattle.cow_streams.proofs.laws.new_plan_packs.Goals as goal

pub returns-clause-placed : goal.returns-clause-placed
returns-clause-placed c = placed

pub returns-clause-packed : goal.returns-clause-packed
returns-clause-packed c = packs
