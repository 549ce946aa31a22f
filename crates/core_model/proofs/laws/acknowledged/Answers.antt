use Rattle.core_model.proofs.Acknowledging.{acknowledged_allowed, acknowledged_began, acknowledged_newest}
use Rattle.core_model.proofs.Extending.{acknowledged_extends}
use Rattle.core_model.proofs.Running.{holds_always}
use Rattle.core_model.specs.World.{World, world_after}
use Rattle.core_model.proofs.laws.acknowledged.Goals as goal

pub returns-clause-began : goal.returns-clause-began
returns-clause-began c = acknowledged_began

pub returns-clause-allowed : goal.returns-clause-allowed
returns-clause-allowed c = acknowledged_allowed

pub returns-clause-newest : goal.returns-clause-newest
returns-clause-newest c = λ b h front n k start legal cut. acknowledged_newest b h front n k cut start legal

pub returns-clause-nothing_lost : goal.returns-clause-nothing_lost
returns-clause-nothing_lost c = λ b h front n k start legal cut. acknowledged_extends b h front n k cut start legal

pub returns-clause-survives : goal.returns-clause-survives
returns-clause-survives c = λ b events start front n cut k may.
    let w : World = world_after b events in
    let h = holds_always b events start in
    acknowledged_extends w.basis w.history front n k cut h.start h.kept.legal (h.file may.0 cut may.1)
