use Rattle.std.proofs.Common.{◌∷◌, [], ◌++◌, sym, ap, ◌∙◌, subst, rules, inr, ◌≡◌, ◌⊎◌, IfOk, IfErr}
use Rattle.turnstile.specs.Histories.{Begins}
use Rattle.hub.specs.Calls.{IsUnbegun}
use Rattle.hub.specs.Passes.{IsBegunBy, IsNotBegun, IsRefusedUnderWay}
use Rattle.turnstile.specs.Passes.{PassView}
use Rattle.hub.specs.Stories.{HubView}
use Rattle.hub.proofs.Passing.{IsTurn, asked, filed_entry, reply_begun, reply_hindered}
use Rattle.hub.proofs.hub.Hub.try_begin_commit.Goals as goal

pub file-requires-clause-entry : goal.file-requires-clause-entry
file-requires-clause-entry g c =
    let f = filed_entry c.deref_mut.result.now.story c.begin.new.self.story c.number-caller.result c.in-Ok.reply (asked c.deref_mut.result.now.story c.begin.new.self.story c.number-caller.result c.in-Ok.reply c.in-Ok.ensures.begun c.in-Ok.ensures.under_way) in
    (f.0, f.1.entries ∙ ap (λ h. h ++ f.0 ∷ []) (ap (λ (v : HubView _). v.story.entries) (c.deref_mut.ensures.value ∙ c.behind-turn.view_is ∙ c.value.ensures.value) ∙ c.take_turn-turn.ensures.history), f.1.own ∙ c.number-caller.ensures.number ∙ sym c.take_turn-turn.ensures.same.0.1)

pub returns-in-Ok-clause-begun : goal.returns-in-Ok-clause-begun
returns-in-Ok-clause-begun g c =
    let t : IsTurn c.args.pass.now c.take_turn-turn.result.pass.now c.leave.new.self.1.0 c.deref_mut.result.now c.begin.new.self c.number-caller.result = record {
      basis = ap (λ (v : HubView _). v.story.basis) (c.deref_mut.ensures.value ∙ c.behind-turn.view_is ∙ c.value.ensures.value) ∙ c.take_turn-turn.ensures.basis;
      history = ap (λ (v : HubView _). v.story.entries) (c.deref_mut.ensures.value ∙ c.behind-turn.view_is ∙ c.value.ensures.value) ∙ c.take_turn-turn.ensures.history;
      more = c.take_turn-turn.ensures.seen;
      same = c.take_turn-turn.ensures.same.0;
      calls = c.take_turn-turn.ensures.same.1;
      number = c.number-caller.ensures.number;
      seen = c.leave.ensures.seen.0 ∙ c.file.ensures.seen;
      mine = λ e is. c.leave.ensures.seen.1 ∙ c.file.ensures.mine e is;
      sound = c.leave.ensures.sound;
      own = c.leave.ensures.same.1 ∙ c.file.ensures.same.1;
    } in
    let left : c.leave.new.self.1.0 ≡ c.pass-1.given.0 = search rules in
    subst (λ (r : PassView). IfOk c.in-Ok.reply (IsBegunBy c.args.pass.now r)) left
    (reply_begun c.args.pass.now c.take_turn-turn.result.pass.now c.leave.new.self.1.0 c.deref_mut.result.now c.begin.new.self c.number-caller.result c.in-Ok.reply t
    (asked c.deref_mut.result.now.story c.begin.new.self.story c.number-caller.result c.in-Ok.reply c.in-Ok.ensures.begun c.in-Ok.ensures.under_way))

pub returns-in-Ok-clause-refused : goal.returns-in-Ok-clause-refused
returns-in-Ok-clause-refused g c =
    let t : IsTurn c.args.pass.now c.take_turn-turn.result.pass.now c.leave.new.self.1.0 c.deref_mut.result.now c.begin.new.self c.number-caller.result = record {
      basis = ap (λ (v : HubView _). v.story.basis) (c.deref_mut.ensures.value ∙ c.behind-turn.view_is ∙ c.value.ensures.value) ∙ c.take_turn-turn.ensures.basis;
      history = ap (λ (v : HubView _). v.story.entries) (c.deref_mut.ensures.value ∙ c.behind-turn.view_is ∙ c.value.ensures.value) ∙ c.take_turn-turn.ensures.history;
      more = c.take_turn-turn.ensures.seen;
      same = c.take_turn-turn.ensures.same.0;
      calls = c.take_turn-turn.ensures.same.1;
      number = c.number-caller.ensures.number;
      seen = c.leave.ensures.seen.0 ∙ c.file.ensures.seen;
      mine = λ e is. c.leave.ensures.seen.1 ∙ c.file.ensures.mine e is;
      sound = c.leave.ensures.sound;
      own = c.leave.ensures.same.1 ∙ c.file.ensures.same.1;
    } in
    let left : c.leave.new.self.1.0 ≡ c.pass-1.given.0 = search rules in
    subst (λ (r : PassView). IfErr c.in-Ok.reply (λ why. IsRefusedUnderWay c.args.pass.now r why ⊎ IsNotBegun c.args.pass.now r why)) left
    (reply_hindered c.args.pass.now c.take_turn-turn.result.pass.now c.leave.new.self.1.0 c.deref_mut.result.now c.begin.new.self c.number-caller.result c.in-Ok.reply t
    (asked c.deref_mut.result.now.story c.begin.new.self.story c.number-caller.result c.in-Ok.reply c.in-Ok.ensures.begun c.in-Ok.ensures.under_way))

pub returns-in-Err-clause-refused : goal.returns-in-Err-clause-refused
returns-in-Err-clause-refused g c =
    let left : c.leave-in-Err.new.self.1.0 ≡ c.pass-in-Err-1.given.0 = search rules in
    let basis = ap (λ (v : HubView _). v.story.basis) (c.deref_mut.ensures.value ∙ c.behind-turn.view_is ∙ c.value.ensures.value) ∙ c.take_turn-turn.ensures.basis ∙ c.take_turn-turn.ensures.same.0.2 in
    let seen = ap (λ (v : HubView _). v.story.entries) (c.deref_mut.ensures.value ∙ c.behind-turn.view_is ∙ c.value.ensures.value) ∙ c.take_turn-turn.ensures.history ∙ sym c.leave-in-Err.ensures.seen.0 in
    subst (λ (r : PassView). IsRefusedUnderWay c.args.pass.now r c.in-Err.refusal ⊎ IsNotBegun c.args.pass.now r c.in-Err.refusal) left
    (inr (record {
      first = subst (Begins c.args.pass.now.seen) (sym c.leave-in-Err.ensures.seen.0) c.take_turn-turn.ensures.seen;
      mine = c.leave-in-Err.ensures.seen.1 ∙ c.take_turn-turn.ensures.same.1;
      cause = subst (λ b. IsUnbegun b c.leave-in-Err.new.self.1.0.seen c.in-Err.refusal) basis (subst (λ h. IsUnbegun c.deref_mut.result.now.story.basis h c.in-Err.refusal) seen c.in-Err.ensures.refused.1);
    }))
