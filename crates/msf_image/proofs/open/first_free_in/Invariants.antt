use Rattle.std.proofs.Common.{◌≡◌, take, find, None}
use Rattle.std.specs.List.{flat_map}
use Rattle.free_page_maps.specs.FreeBlocks.{is_free}
use Rattle.stream_directory.specs.Directory.{blocks_in}
use Rattle.msf_image.proofs.open.first_free_in.Given as goal

abbrev pub invariant-loop-stream : goal.invariant-loop-stream
invariant-loop-stream l = find (is_free l.free) (flat_map blocks_in (take l.stream-index l.streams)) ≡ None
