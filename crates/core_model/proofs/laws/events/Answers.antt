use Rattle.std.proofs.Common.{Some, ap}
use Rattle.core_model.specs.Events.{dies}
use Rattle.core_model.specs.World.{World, world_after}
use Rattle.core_model.proofs.Committing.{asked_history, asked_seen, step_asked, step_begun, step_up}
use Rattle.core_model.proofs.Later.{longer}
use Rattle.core_model.proofs.Idle.{idle}
use Rattle.core_model.proofs.Own.{answered, counts, gets_item, gets_name, gets_type, others, own, sees}
use Rattle.core_model.proofs.Running.{holds_always}
use Rattle.core_model.proofs.laws.events.Goals as goal

pub returns-clause-answered : goal.returns-clause-answered
returns-clause-answered c = λ b events start n call up pass is. answered (world_after b events) n call up pass is

pub returns-clause-own : goal.returns-clause-own
returns-clause-own c = λ b events start n call up pass is. own (world_after b events) n call up pass is

pub returns-clause-sees : goal.returns-clause-sees
returns-clause-sees c = λ b events start n call up pass is. sees (world_after b events) n call up pass is

pub returns-clause-gets_type : goal.returns-clause-gets_type
returns-clause-gets_type c = λ index b events start n. gets_type (world_after b events) n index

pub returns-clause-gets_item : goal.returns-clause-gets_item
returns-clause-gets_item c = λ index b events start n. gets_item (world_after b events) n index

pub returns-clause-gets_name : goal.returns-clause-gets_name
returns-clause-gets_name c = λ offset b events start n. gets_name (world_after b events) n offset

pub returns-clause-counts : goal.returns-clause-counts
returns-clause-counts c = λ b events start n up pass is. counts (world_after b events) n up pass

pub returns-clause-refused : goal.returns-clause-refused
returns-clause-refused c = λ b events start k is up n pass. ap (λ (v : World). v.history) (step_asked (world_after b events) n (Some k) up pass is)

pub returns-clause-unfiled : goal.returns-clause-unfiled
returns-clause-unfiled c = λ b events start n. asked_history (world_after b events) n

pub returns-clause-looks : goal.returns-clause-looks
returns-clause-looks c = λ b events start n. asked_seen (world_after b events) n

pub returns-clause-begins : goal.returns-clause-begins
returns-clause-begins c = λ b events start n up pass idle few. ap (λ (v : World). v.history) (step_begun (world_after b events) n up pass idle few)

pub returns-clause-under_way : goal.returns-clause-under_way
returns-clause-under_way c = λ b events start n up pass idle few. ap (λ (v : World). v.commit) (step_begun (world_after b events) n up pass idle few)

pub returns-clause-dies : goal.returns-clause-dies
returns-clause-dies c = λ b events start n. step_up (world_after b events) (dies n)

pub returns-clause-idle : goal.returns-clause-idle
returns-clause-idle c = λ b events start. idle (world_after b events)

pub returns-clause-basis : goal.returns-clause-basis
returns-clause-basis c = λ b events start event up. (longer (world_after b events) event up (holds_always b events start)).basis

pub returns-clause-grows : goal.returns-clause-grows
returns-clause-grows c = λ b events start event up. (longer (world_after b events) event up (holds_always b events start)).grows

pub returns-clause-order : goal.returns-clause-order
returns-clause-order c = λ b events start event n up. (longer (world_after b events) event up (holds_always b events start)).seen n

pub returns-clause-others : goal.returns-clause-others
returns-clause-others c = λ b events start event n up other. others (world_after b events) event n up other
