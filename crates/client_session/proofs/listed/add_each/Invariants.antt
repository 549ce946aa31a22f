use Rattle.std.proofs.Common.{◌+◌, ◌-◌, length}
use Rattle.srv_edge.specs.declared.kind.TheConstants as kinds
use Rattle.client_session.specs.Tables.{kind_of_list}
use Rattle.client_session.proofs.Listing.{SoFarBy}
use Rattle.client_session.proofs.listed.add_each.Given as goal

abbrev pub invariant-loop-record : goal.invariant-loop-record
invariant-loop-record g l = SoFarBy l.space l.fn.head (kind_of_list l.space + kinds.REPLY) l.list l.at l.hub l.initial.pass l.out l.pass

abbrev pub decreases-loop-record : goal.decreases-loop-record
decreases-loop-record g l = length l.list - l.at
