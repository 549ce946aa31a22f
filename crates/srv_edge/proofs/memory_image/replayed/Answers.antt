use Rattle.std.proofs.Common.{take, ap, sym, subst, ◌∙◌, arith}
use Rattle.srv_edge.specs.Images.{ShowsState}
use Rattle.srv_edge.specs.Past.{state_more}
use Rattle.srv_edge.specs.Replay.{State, after_call, state_of}
use Rattle.srv_edge.proofs.memory_image.replayed.Goals as goal

pub loop-call-preserved : goal.loop-call-preserved
loop-call-preserved c =
    let calls = c.args.calls.now in
    let i = c.loop-call.call-index in
    let s = state_of c.args.first.now (take i calls) in
    let more = state_more c.args.first.now calls i c.call-item.result (omega arith) in
    let P : State → Type 0 = λ t. ShowsState c.step.new.self t c.args.fill c.args.last_super in
    subst P (ap (after_call s) c.call-item.is ∙ sym more) (c.in_ok-step.ensures s c.loop-call.invariant)
