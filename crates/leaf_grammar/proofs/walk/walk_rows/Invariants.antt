use Rattle.std.proofs.Common.{◌≡◌, ◌≤◌, ◌-◌, ◌+◌, ℕ, length}
use Rattle.leaf_grammar.specs.Leaf.{rows_end}
use Rattle.leaf_grammar.specs.Found.{found_in_rows, placed}
use Rattle.leaf_grammar.proofs.Visiting.{Completes}
use Rattle.leaf_grammar.proofs.walk.walk_rows.Given as goal

abbrev pub invariant-loop-at : goal.invariant-loop-at
invariant-loop-at g l =
    let visitor = g.V.VisitForms in
    record {
      inside : l.at ≤ length l.bytes;
      rest : (n : ℕ) × (length l.bytes ≤ l.at + n) × (rows_end l.rows n l.bytes l.at ≡ rows_end l.rows (length l.bytes) l.bytes l.fn.from)
          × Completes (visitor.does l.bytes) (found_in_rows placed l.rows n l.bytes l.at) l.visit (found_in_rows placed l.rows (length l.bytes) l.bytes l.fn.from) l.initial.visit;
      loans : visitor.loans l.visit ≡ visitor.loans l.initial.visit;
    }

abbrev pub decreases-loop-at : goal.decreases-loop-at
decreases-loop-at g l = length l.bytes - l.at
