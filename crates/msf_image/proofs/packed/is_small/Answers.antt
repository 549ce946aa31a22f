use Rattle.std.proofs.Common.{false, refl, arith}
use Rattle.std.proofs.lemmas.Bool.{both_ways}
use Rattle.msf_image.proofs.PackedLoops.{too_many}
use Rattle.msf_image.proofs.packed.is_small.Goals as goal

pub returns-then-kept-from : goal.returns-then-kept-from
returns-then-kept-from c =
    (λ h. absurd (both_ways false refl h), λ is. absurd (too_many c.args.block c.args.streams c.args.kept (omega arith) is))
