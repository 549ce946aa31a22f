use Rattle.std.proofs.Common.{◌≡◌, ◌≤◌, ◌-◌, ◌++◌, ℕ, List, length}
use Rattle.srv_edge.specs.Stream.{Came}
use Rattle.request_frames.proofs.next.fill.Given as goal

abbrev pub invariant-loop-piece : goal.invariant-loop-piece
invariant-loop-piece g l =
    let source = g.S.Source in
    record {
      has : length l.piece ≤ l.want;
      within : length l.piece ≤ l.limit;
      came : (more : List ℕ) × (l.piece ≡ l.initial.piece ++ more) × Came source.tells more (source.given l.initial.source) (source.left l.initial.source) (source.given l.source) (source.left l.source);
      beside : source.beside l.source ≡ source.beside l.initial.source;
      loans : source.loans l.source ≡ source.loans l.initial.source;
      never_falls : source.faults l.initial.source ≤ source.faults l.source;
    }

abbrev pub decreases-loop-piece : goal.decreases-loop-piece
decreases-loop-piece g l = l.want - length l.piece
