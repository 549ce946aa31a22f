use Rattle.std.proofs.Common.{◌≡◌, take}
use Rattle.msf_image.specs.Packed.{present, stream_blocks, streams_from}
use Rattle.msf_image.proofs.packed.directory_of.Given as goal

abbrev pub invariant-loop-stream : goal.invariant-loop-stream
invariant-loop-stream l =
    (l.all.items ≡ streams_from l.block 0 (present (take l.stream-index l.streams))) × (l.next ≡ stream_blocks l.block (present (take l.stream-index l.streams)))
