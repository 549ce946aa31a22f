use Rattle.std.proofs.Common.{◌≡◌, ◌⊎◌, ◌∙◌, subst, rules}
use Rattle.core_model.specs.Law.{add_to}
use Rattle.table_model.specs.Calls.{index_answer}
use Rattle.turnstile.specs.Passes.{PassView}
use Rattle.hub.specs.Passes.{IsAnswered, IsRefused}
use Rattle.hub.specs.Turns.{pass_in}
use Rattle.hub.proofs.Ahead.{behind_turn, called_ahead}
use Rattle.hub.proofs.hub.Hub.add.Goals as goal

pub returns-clause-reply : goal.returns-clause-reply
returns-clause-reply g c =
    let call = add_to c.args.kind c.args.bytes.now in
    let reply = c.add_judged-reply.result in
    let turn = c.add_judged-reply.new.turn in
    let left : c.leave.new.self.1.0 ≡ c.pass-1.given.0 = search rules in
    let behind = behind_turn c.leave.new.self.1.0 turn.pass.now c.leave.ensures.same c.leave.ensures.idle.1 c.leave.ensures.seen in
    subst (λ (r : PassView). IsAnswered c.args.pass.now r call (index_answer reply) ⊎ IsRefused c.args.pass.now r reply) (behind ∙ left)
    (called_ahead c.args.pass.now (pass_in c.take_turn-turn.result) (pass_in turn) call reply c.take_turn-turn.ensures.ahead c.add_judged-reply.ensures.reply)
