use Rattle.std.proofs.Common.{◌≡◌, List, ℕ, map, vec_len, sym, ap, subst, ◌∙◌, arith}
use denote.Param.Send.{sendable}
use Rattle.std.proofs.Crossing.{crosses}
use Rattle.turnstile.specs.Histories.{Begins}
use Rattle.turnstile.specs.Passes.{PassView}
use Rattle.build_server.specs.Workers.{badge_of, badges_from}
use Rattle.build_server.specs.declared.worker.Worker.{Worker}
use Rattle.build_server.proofs.Passes.{badge_count}
use Rattle.build_server.proofs.Sending.{worker_send}
use Rattle.build_server.proofs.server.serve_links.Goals as goal

pub run_pool-workers-requires-send-W : goal.run_pool-workers-requires-send-W
run_pool-workers-requires-send-W g c κs within = search (sendable, crosses, worker_send) depth 40 fits 30000

pub run_pool-workers-requires-clause-some : goal.run_pool-workers-requires-clause-some
run_pool-workers-requires-clause-some g c κs within =
    let W = Worker g.row.R.Denot g.row.D.Denot in
    let f : W → List ℕ = λ w. badge_of w.desk in
    let seats = c.take_seats.new.workers in
    let count = badge_count f seats.items c.args.hub.now 1 (vec_len c.args.rooms) c.take_seats.ensures.passes in
    omega (arith, count, seats.ok.0, c.requires.some)

pub retire_all-requires-clause-passes : goal.retire_all-requires-clause-passes
retire_all-requires-clause-passes g c =
    let W = Worker g.row.R.Denot g.row.D.Denot in
    let f : W → List ℕ = λ w. badge_of w.desk in
    let back = c.run_pool-workers.result.workers in
    let all : map f back.items ≡ badges_from c.args.hub.now 1 (vec_len c.args.rooms) = c.run_pool-workers.ensures.badges ∙ c.take_seats.ensures.passes in
    let count : vec_len c.args.rooms ≡ vec_len back = sym (badge_count f back.items c.args.hub.now 1 (vec_len c.args.rooms) all) ∙ sym back.ok.0 in
    all ∙ ap (badges_from c.args.hub.now 1) count

pub returns-clause-left : goal.returns-clause-left
returns-clause-left g c =
    let a = c.take_seats.ensures.first in
    let b = c.retire_all.ensures in
    record {
      seen = subst (λ (p : PassView). Begins p.seen c.retire_all.new.first.seen) a b.seen;
      same = b.same ∙ ap (λ (p : PassView). record p { seen = c.retire_all.new.first.seen; ended = c.retire_all.new.first.ended }) a;
      retired = b.retired;
      count = let W = Worker g.row.R.Denot g.row.D.Denot in
          let f : W → List ℕ = λ w. badge_of w.desk in
          let back = c.run_pool-workers.result.workers in
          b.count ∙ back.ok.0 ∙ badge_count f back.items c.args.hub.now 1 (vec_len c.args.rooms) (c.run_pool-workers.ensures.badges ∙ c.take_seats.ensures.passes);
    }
