use Rattle.core_model.proofs.Running.{holds_always}
use Rattle.core_model.proofs.laws.world.Goals as goal

pub returns-clause-legal : goal.returns-clause-legal
returns-clause-legal c = λ b events start. (holds_always b events start).kept.legal

pub returns-clause-seen : goal.returns-clause-seen
returns-clause-seen c = λ b events start n. ((holds_always b events start).kept.each n).seen

pub returns-clause-mine : goal.returns-clause-mine
returns-clause-mine c = λ b events start n. ((holds_always b events start).kept.each n).mine

pub returns-clause-once : goal.returns-clause-once
returns-clause-once c = λ b events start n. ((holds_always b events start).kept.each n).once

pub returns-clause-crash : goal.returns-clause-crash
returns-clause-crash c = λ b events start cut may. (holds_always b events start).file may.0 cut may.1
