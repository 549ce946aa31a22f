use Rattle.std.proofs.Common.{subst}
use Rattle.hub.specs.Ends.{IsLeftOf}
use Rattle.hub.proofs.Closing.{closes}
use Rattle.hub.proofs.hub.Hub.close.Goals as goal

pub returns : goal.returns
returns g c =
    closes g.D.Device c.args.first c.close.result c.into_ended.result (subst (λ v. IsLeftOf g.D.Device v c.into_ended.result) c.into_state.ensures c.into_ended.ensures) c.close.ensures.basis c.close.ensures.seen c.close.ensures.mine c.close.ensures.ended c.close.ensures.others c.requires.ended c.requires.all_ended
