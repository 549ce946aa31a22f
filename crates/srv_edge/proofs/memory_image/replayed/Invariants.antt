use Rattle.std.proofs.Common.{take}
use Rattle.srv_edge.specs.Images.{ShowsState}
use Rattle.srv_edge.specs.Replay.{state_of}
use Rattle.srv_edge.proofs.memory_image.replayed.Given as goal

abbrev pub invariant-loop-call : goal.invariant-loop-call
invariant-loop-call l = ShowsState l.replay (state_of l.first (take l.call-index l.calls)) l.fill l.last_super
