use Rattle.std.proofs.Common.{◌≡◌, take}
use Rattle.std.specs.List.{flat_map}
use Rattle.msf_image.specs.Packed.{filled}
use Rattle.msf_image.proofs.packed.content_of.Given as goal

abbrev pub invariant-loop-stream : goal.invariant-loop-stream
invariant-loop-stream l = l.content.items ≡ flat_map (filled l.block) (take l.stream-index l.streams)
