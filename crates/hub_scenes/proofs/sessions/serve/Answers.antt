use Rattle.std.proofs.Common.{◌∙◌, ap}
use Rattle.turnstile.specs.Passes.{PassView}
use Rattle.client_session.proofs.Sharing.{talk_makes}
use Rattle.hub_scenes.proofs.sessions.serve.Goals as goal

pub returns : goal.returns
returns g c =
    let session = c.serve_link.ensures.serves.session in
    let made = talk_makes c.new-desk.result c.serve_link.new.desk session.frames session.replies session.talk in
    ((ap (λ (p : PassView). p.turnstile) c.end.ensures.pass ∙ made.1.same.0 ∙ ap (λ (p : PassView). p.turnstile) c.new-desk.ensures ∙ c.requires.0.0, c.end.ensures.idle), c.end.ensures.ended)
