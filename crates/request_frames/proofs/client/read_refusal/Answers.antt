use Rattle.std.proofs.Common.{◌∷◌, length, ap, arith, length-append}
use Rattle.srv_edge.specs.Frames.{word_bytes}
use Rattle.srv_edge.proofs.Numbers.{length-word_bytes}
use Rattle.request_frames.proofs.client.read_refusal.Goals as goal

pub returns-then-body-ne9-clause-bad : goal.returns-then-body-ne9-clause-bad
returns-then-body-ne9-clause-bad c = λ code a b least most e.
    omega (arith, ap length e, length-append (word_bytes a) (word_bytes b), length-append (code ∷ word_bytes a) (word_bytes b), length-word_bytes a, length-word_bytes b)
