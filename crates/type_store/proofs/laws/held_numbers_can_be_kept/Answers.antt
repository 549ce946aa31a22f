use Rattle.type_store.proofs.Parts.{can_keep}
use Rattle.type_store.proofs.laws.held_numbers_can_be_kept.Goals as goal

pub returns : goal.returns
returns c = λ limits contents held bytes e. can_keep limits contents held bytes e
