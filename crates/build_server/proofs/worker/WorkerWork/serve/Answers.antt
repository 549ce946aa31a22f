use Rattle.std.proofs.Common.{◌∙◌, ap}
use Rattle.client_session.proofs.Sharing.{talk_makes}
use Rattle.build_server.specs.Workers.{badge}
use Rattle.build_server.proofs.worker.WorkerWork.serve.Goals as goal

pub returns-clause-badge : goal.returns-clause-badge
returns-clause-badge g c =
    let session = c.serve_link.ensures.serves.session in
    let made = talk_makes c.args.self.now.desk c.serve_link.new.desk session.frames session.replies session.talk in
    ap (λ gate. badge gate c.serve_link.new.desk.number) made.1.same.0 ∙ ap (badge c.args.self.now.desk.turnstile) made.1.same.1

pub returns-clause-mine : goal.returns-clause-mine
returns-clause-mine g c =
    let session = c.serve_link.ensures.serves.session in
    talk_makes c.args.self.now.desk c.serve_link.new.desk session.frames session.replies session.talk
