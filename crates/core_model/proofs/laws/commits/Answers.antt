use Rattle.std.proofs.Common.{ap, ⊎_elim, subst, ◌≡◌}
use Rattle.core_model.specs.Files.{done, failed}
use Rattle.core_model.specs.World.{World, world_after}
use Rattle.core_model.proofs.Committing.{fails, halts, resolves, step_ended, stops}
use Rattle.core_model.proofs.Holding.{StandsIn}
use Rattle.core_model.proofs.Later.{stays}
use Rattle.core_model.proofs.Running.{holds_always, under_way}
use Rattle.core_model.proofs.Smooth.{smooth}
use Rattle.core_model.proofs.laws.commits.Goals as goal

pub returns-clause-begun : goal.returns-clause-begun
returns-clause-begun c = λ b events start k is. (under_way (world_after b events) k is (holds_always b events start)).cut

pub returns-clause-certain : goal.returns-clause-certain
returns-clause-certain c = λ b events start k is at. (under_way (world_after b events) k is (holds_always b events start)).finished at

pub returns-clause-stays : goal.returns-clause-stays
returns-clause-stays c = λ b events start event cut up other may. stays (world_after b events) event cut up other (holds_always b events start) may

pub returns-clause-steady : goal.returns-clause-steady
returns-clause-steady c = λ b events start k is at. subst (λ phase. StandsIn phase (world_after b events).file) at (under_way (world_after b events) k is (holds_always b events start)).stands

pub returns-clause-resolves : goal.returns-clause-resolves
returns-clause-resolves c = λ b events start k is up x p. resolves (world_after b events) k x p up is

pub returns-clause-stops : goal.returns-clause-stops
returns-clause-stops c = λ b events start k is up call. stops (world_after b events) k call up is

pub returns-clause-fails : goal.returns-clause-fails
returns-clause-fails c = λ b events start. fails (world_after b events)

pub returns-clause-halts : goal.returns-clause-halts
returns-clause-halts c = λ b events start k is up event. halts (world_after b events) k event up is

pub returns-clause-acknowledges : goal.returns-clause-acknowledges
returns-clause-acknowledges c = λ b events start k is up at. ap (λ (v : World). v.history) (step_ended (world_after b events) k done up is at)

pub returns-clause-faults : goal.returns-clause-faults
returns-clause-faults c = λ b events start k is up at. ap (λ (v : World). v.history) (step_ended (world_after b events) k failed up is at)

pub returns-clause-frees : goal.returns-clause-frees
returns-clause-frees c = λ b events start k is up.
    ⊎_elim (λ (at : k.phase ≡ done). ap (λ (v : World). v.commit) (step_ended (world_after b events) k done up is at)) (λ (at : k.phase ≡ failed). ap (λ (v : World). v.commit) (step_ended (world_after b events) k failed up is at))

pub returns-clause-succeeds : goal.returns-clause-succeeds
returns-clause-succeeds c = λ b events start n up pass idle few blocks. (smooth (world_after b events) n blocks up pass idle few).history

pub returns-clause-settles : goal.returns-clause-settles
returns-clause-settles c = λ b events start n up pass idle few blocks. (smooth (world_after b events) n blocks up pass idle few).file
