use Rattle.std.proofs.Common.{◌≡◌, ◌+◌, [], ◌∷◌, ◌++◌, All, length, map, refl, sym, ap, subst, ◌∙◌, arith, length-append}
use Rattle.std.proofs.lemmas.List.Elements.{All-append, All-cons, All-nil}
use Rattle.turnstile.specs.Passes.{PassView, one_more}
use Rattle.build_server.specs.Workers.{badge, badge_of, badges_from}
use Rattle.build_server.specs.declared.worker.Worker.{Worker}
use Rattle.build_server.proofs.Passes.{seat_more}
use Rattle.build_server.proofs.workers.take_seats.Goals as goal

pub loop-room-preserved : goal.loop-room-preserved
loop-room-preserved g c =
    let n = length c.loop-room.yielded in
    let inv = c.loop-room.invariant in
    let len : length (c.loop-room.yielded ++ c.in-Some.room ∷ []) ≡ n + 1 = length-append c.loop-room.yielded (c.in-Some.room ∷ []) in
    let W = Worker g.row.R.Denot g.row.D.Denot in
    let w : W = record { desk = c.new.result; room = c.in-Some.room; links = 0 } in
    let P : W → Type 0 = λ x. x.links ≡ 0 in
    let pass : badge_of c.new.result ≡ badge c.args.hub.now (n + 1) =
    ap badge_of (c.new.ensures ∙ c.split-pass.ensures.new) ∙ ap (λ (p : PassView). badge p.turnstile p.made) inv.first ∙ ap (λ t. badge t (n + 1)) c.requires.idle.0
    in
    record {
      first = c.split-pass.ensures.first ∙ ap one_more inv.first ∙ ap (λ m. record c.args.first.now { made = m + 1 }) (sym len);
      passes = ap (map (λ (x : W). badge_of x.desk)) c.push_reserved.ensures.items
          ∙ seat_more (λ (x : W). badge_of x.desk) c.loop-room.workers.items w c.args.hub.now n inv.passes pass
          ∙ ap (badges_from c.args.hub.now 1) (sym len);
      unused = subst (All P) (sym c.push_reserved.ensures.items) (All-append P c.loop-room.workers.items (w ∷ []) inv.unused (All-cons P w [] refl (All-nil P)));
      count = omega (arith, c.push_reserved.ensures.len, inv.count, len);
      memory = c.push_reserved.ensures.capacity ∙ inv.memory;
    }
