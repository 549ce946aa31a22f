use Rattle.std.proofs.Common.{◌++◌, drop, sym, ap, ◌∙◌, arith}
use Rattle.srv_edge.specs.Frames.{half_bytes}
use Rattle.srv_edge.proofs.Numbers.{half_bytes-read}
use Rattle.srv_edge.proofs.words.half_at.Goals as goal

pub returns : goal.returns
returns c = sym (ap (λ n. half_bytes n ++ drop 2 c.args.bytes.now) c.read_u16.ensures ∙ half_bytes-read c.args.bytes.now c.requires (λ i. omega (arith, c.type_inv.bytes i)))
