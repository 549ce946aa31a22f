use Rattle.std.proofs.Common.{[], ◌∷◌, ◌++◌, ap, ◌∙◌, append_assoc}
use Rattle.srv_edge.specs.Frames.{frame_bytes, word_bytes}
use Rattle.request_frames.proofs.write.push_part.Goals as goal

pub returns : goal.returns
returns c = λ f spelled.
    let code = c.args.part.now.code in
    let a = word_bytes c.args.part.now.a in
    let b = word_bytes c.args.part.now.b in
    let body = f.message.body in
    let one = c.push_body.ensures.frame f spelled in
    let two = c.push_body-2.ensures.frame (record { head = f.head; message = record { kind = f.message.kind; body = body ++ code ∷ [] } }) one in
    let two' = two ∙ ap (λ xs. frame_bytes (record { head = f.head; message = record { kind = f.message.kind; body = xs } })) (append_assoc body (code ∷ []) c.word.result ∙ ap (λ xs. body ++ (code ∷ xs)) c.word.ensures) in
    let three = c.push_body-3.ensures.frame (record { head = f.head; message = record { kind = f.message.kind; body = body ++ (code ∷ a) } }) two' in
    three ∙ ap (λ xs. frame_bytes (record { head = f.head; message = record { kind = f.message.kind; body = xs } })) (append_assoc body (code ∷ a) c.word-2.result ∙ ap (λ xs. body ++ (code ∷ (a ++ xs))) c.word-2.ensures)
