use Rattle.std.proofs.Common.{◌≡◌, ◌≤◌, ◌*◌, take}
use Rattle.msf_image.specs.Packed.{present, stream_blocks}
use Rattle.msf_image.proofs.packed.stream_blocks.Given as goal

abbrev pub invariant-loop-stream : goal.invariant-loop-stream
invariant-loop-stream l = (l.sum ≡ stream_blocks l.block (present (take l.stream-index l.streams))) × (l.sum ≤ l.stream-index * 4294967296)
