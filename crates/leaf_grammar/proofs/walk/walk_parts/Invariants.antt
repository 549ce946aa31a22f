use Rattle.std.proofs.Common.{◌≡◌, ◌≤◌, length, drop}
use Rattle.leaf_grammar.specs.Leaf.{parts_end, cursor}
use Rattle.leaf_grammar.specs.Found.{found_in, placed}
use Rattle.leaf_grammar.proofs.Visiting.{Completes}
use Rattle.leaf_grammar.proofs.walk.walk_parts.Given as goal

abbrev pub invariant-loop-part : goal.invariant-loop-part
invariant-loop-part g l =
    let visitor = g.V.VisitForms in
    record {
      inside : l.cursor.at ≤ length l.bytes;
      rest : parts_end (drop l.part-index l.parts) l.bytes l.cursor ≡ parts_end l.parts l.bytes (cursor l.fn.from 0);
      visits : Completes (visitor.does l.bytes) (found_in placed (drop l.part-index l.parts) l.bytes l.cursor) l.visit (found_in placed l.parts l.bytes (cursor l.fn.from 0)) l.initial.visit;
      loans : visitor.loans l.visit ≡ visitor.loans l.initial.visit;
    }
