use Rattle.std.proofs.Common.{◌+◌, ◌-◌, ◌≡◌, length}
use Rattle.srv_edge.specs.declared.kind.TheConstants as kinds
use Rattle.turnstile.specs.Turns.{borrow_of, gate_of}
use Rattle.client_session.specs.Tables.{kind_of_list}
use Rattle.client_session.proofs.Leaves.{SoFarIn}
use Rattle.client_session.proofs.listed.add_leaves.Given as goal

abbrev pub invariant-loop-record : goal.invariant-loop-record
invariant-loop-record g l =
    SoFarIn l.space l.fn.head (kind_of_list l.space + kinds.REPLY) l.list l.at l.fn.pass l.out l.turn
    × (borrow_of l.turn ≡ borrow_of l.initial.turn) × (gate_of l.turn ≡ gate_of l.initial.turn)

abbrev pub decreases-loop-record : goal.decreases-loop-record
decreases-loop-record g l = length l.list - l.at
