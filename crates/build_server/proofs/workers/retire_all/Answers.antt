use Rattle.std.proofs.Common.{◌≡◌, ◌+◌, ℕ, List, [], ◌∷◌, ◌++◌, length, map, sym, ap, subst, ◌∙◌, arith, length-append, append_assoc}
use Rattle.turnstile.specs.declared.view.Ended.{Ended}
use Rattle.turnstile.specs.Passes.{PassView}
use Rattle.turnstile.proofs.Beginnings.{begins_on}
use Rattle.build_server.specs.Workers.{AreRetiredFrom, badge, badge_of, badges_from}
use Rattle.build_server.specs.declared.worker.Worker.{Worker}
use Rattle.build_server.proofs.Passes.{badge_behind, one_more_retired, same_gate, same_number}
use Rattle.build_server.proofs.workers.retire_all.Goals as goal

pub retire-requires-clause-ended : goal.retire-requires-clause-ended
retire-requires-clause-ended g c =
    let W = Worker g.row.R.Denot g.row.D.Denot in
    let f : W → List ℕ = λ x. badge_of x.desk in
    let all = c.loop-worker.yielded ++ c.loop-worker.worker-iterator.rest.items in
    let is : f c.in-Some.worker ≡ badge c.args.hub.now (1 + length c.loop-worker.yielded) =
    badge_behind f c.loop-worker.yielded c.next.new.self.rest.items c.in-Some.worker c.args.hub.now 1 (length all)
    (ap (λ xs. map f (c.loop-worker.yielded ++ xs)) (sym c.in-Some.ensures.steps.0) ∙ c.loop-worker.invariant.passes)
    in
    (ap (λ (p : PassView). p.turnstile) c.end.ensures.pass ∙ same_gate _ _ _ _ is, c.end.ensures.idle)

pub loop-worker-preserved : goal.loop-worker-preserved
loop-worker-preserved g c =
    let W = Worker g.row.R.Denot g.row.D.Denot in
    let f : W → List ℕ = λ x. badge_of x.desk in
    let inv = c.loop-worker.invariant in
    let n = length c.loop-worker.yielded in
    let front : c.loop-worker.yielded ++ c.loop-worker.worker-iterator.rest.items ≡ (c.loop-worker.yielded ++ c.in-Some.worker ∷ []) ++ c.next.new.self.rest.items =
    ap (λ xs. c.loop-worker.yielded ++ xs) c.in-Some.ensures.steps.0 ∙ sym (append_assoc c.loop-worker.yielded (c.in-Some.worker ∷ []) c.next.new.self.rest.items)
    in
    let all = c.loop-worker.yielded ++ c.loop-worker.worker-iterator.rest.items in
    let is : f c.in-Some.worker ≡ badge c.args.hub.now (1 + n) =
    badge_behind f c.loop-worker.yielded c.next.new.self.rest.items c.in-Some.worker c.args.hub.now 1 (length all)
    (ap (λ xs. map f (c.loop-worker.yielded ++ xs)) (sym c.in-Some.ensures.steps.0) ∙ inv.passes)
    in
    let number : c.end.result.number ≡ 1 + n = ap (λ (p : PassView). p.number) c.end.ensures.pass ∙ same_number _ _ _ _ is in
    let len : length (c.loop-worker.yielded ++ c.in-Some.worker ∷ []) ≡ n + 1 = length-append c.loop-worker.yielded (c.in-Some.worker ∷ []) in
    let first = c.loop-worker.first in
    let e : Ended = record { number = c.end.result.number; calls = c.end.result.mine } in
    let seen = c.retire.new.first.seen in
    let more : c.retire.new.first.ended ≡ first.ended ++ e ∷ [] = ap (λ (p : PassView). p.ended) c.retire.ensures.ended in
    record {
      passes = subst (λ xs. map f xs ≡ badges_from c.args.hub.now 1 (length xs)) front inv.passes;
      seen = begins_on _ _ _ inv.seen c.retire.ensures.seen;
      same = c.retire.ensures.ended
          ∙ ap (λ (p : PassView). record p { seen = seen; ended = first.ended ++ e ∷ [] }) inv.same
          ∙ ap (λ x. record c.args.first.now { seen = seen; ended = x }) (sym more);
      retired = subst (AreRetiredFrom 1) (sym more) (one_more_retired 1 first.ended e inv.retired (omega (arith, number, inv.count)) c.end.ensures.ended);
      count = omega (arith, ap length more, length-append first.ended (e ∷ []), inv.count, len);
    }
