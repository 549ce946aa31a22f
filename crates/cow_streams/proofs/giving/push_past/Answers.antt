use Rattle.std.proofs.Common.{◌+◌, ◌++◌, [], ◌∷◌, sym, ap, ◌∙◌, arith}
use Rattle.std.proofs.lemmas.List.{append_assoc}
use Rattle.cow_streams.specs.Supply.{next_unreserved, unreserved_from}
use Rattle.cow_streams.proofs.Loops.{end_after, end_more, past_more}
use Rattle.cow_streams.proofs.giving.push_past.Goals as goal

pub loop-i-preserved : goal.loop-i-preserved
loop-i-preserved c =
    let size = c.args.block_size in
    let first = c.args.first in
    let i = c.loop-i.i in
    let old = c.args.given.now.items in
    let now = c.loop-i.invariant in
    let run = unreserved_from size first i in
    let next = c.next_unreserved-b.ensures.next ∙ ap (next_unreserved size) now.is_end in
    record {
      given = c.in_ok-push.ensures.items ∙ ap (λ ys. ys ++ c.next_unreserved-b.result ∷ []) now.given ∙ ap (λ y. old ++ run ++ y ∷ []) next
          ∙ append_assoc old run (next_unreserved size (end_after size first i) ∷ []) ∙ ap (λ ys. old ++ ys) (sym (past_more size first i));
      is_end = ap (λ n. n + 1) next ∙ sym (end_more size first i);
      few = omega (arith, c.next_unreserved-b.ensures.near, now.few);
    }
