use Rattle.std.proofs.Common.{◌≡◌, ◌+◌, drop, sym, ap, ◌∙◌, inl, inr}
use Rattle.srv_edge.specs.Frames.{tag_size}
use Rattle.request_frames.specs.Requests.{message_in}
use Rattle.request_frames.proofs.Refusing.{no_refusal}
use Rattle.request_frames.proofs.client.read_message.Goals as goal

pub returns-in_err-code-in-255-clause-body : goal.returns-in_err-code-in-255-clause-body
returns-in_err-code-in-255-clause-body c = λ _.
    let is : message_in c.args.version c.args.frame.now ≡ record { kind = 255; body = c.body_of-body.result.now } =
    ap (λ k. record { kind = k; body = drop (1 + tag_size c.args.version) c.args.frame.now }) c.in-255.is
    ∙ ap (λ xs. record { kind = 255; body = xs }) (sym c.body_of-body.ensures) in (
      inl (inr (inr (inr (inr (inr (inr (inr (inr (inr (inr c.in-255.is)))))))))),
      λ reply of e. no_refusal c.args.version c.body_of-body.result.now c.in_err-code-in-255.ensures.bad reply of (e ∙ is),
    )
