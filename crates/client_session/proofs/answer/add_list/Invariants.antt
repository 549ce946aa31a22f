use Rattle.std.proofs.Common.{◌+◌, ◌-◌, length}
use Rattle.srv_edge.specs.declared.kind.TheConstants as kinds
use Rattle.client_session.specs.Tables.{kind_of_list}
use Rattle.client_session.proofs.Lists.{SoFar}
use Rattle.type_store.specs.Views.{tables_in}
use Rattle.client_session.proofs.answer.add_list.Given as goal

abbrev pub invariant-loop-record : goal.invariant-loop-record
invariant-loop-record l = SoFar l.space l.fn.head (kind_of_list l.space + kinds.REPLY) l.list l.at (tables_in l.initial.tables) l.out (tables_in l.tables)

abbrev pub decreases-loop-record : goal.decreases-loop-record
decreases-loop-record l = length l.list - l.at
