use Rattle.std.proofs.Common.{◌++◌, drop, sym, ap, ◌∙◌, arith}
use Rattle.srv_edge.specs.Frames.{word_bytes}
use Rattle.srv_edge.proofs.Numbers.{word_bytes-read}
use Rattle.srv_edge.proofs.words.word_at.Goals as goal

pub returns : goal.returns
returns c = sym (ap (λ n. word_bytes n ++ drop 4 c.args.bytes.now) c.read_u32.ensures ∙ word_bytes-read c.args.bytes.now c.requires (λ i. omega (arith, c.type_inv.bytes i)))
