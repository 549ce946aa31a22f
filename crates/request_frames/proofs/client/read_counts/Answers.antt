use Rattle.std.proofs.Common.{◌++◌, length, ap, arith, length-append}
use Rattle.srv_edge.specs.Frames.{word_bytes}
use Rattle.srv_edge.proofs.Numbers.{length-word_bytes}
use Rattle.request_frames.proofs.client.read_counts.Goals as goal

pub returns-then-body-ne12-clause-bad : goal.returns-then-body-ne12-clause-bad
returns-then-body-ne12-clause-bad c = λ types items names e.
    omega (
      arith,
      ap length e,
      length-append (word_bytes types ++ word_bytes items) (word_bytes names),
      length-append (word_bytes types) (word_bytes items),
      length-word_bytes types,
      length-word_bytes items,
      length-word_bytes names,
    )
