use Rattle.std.proofs.Common.{◌≡◌}
use Rattle.msf_image.specs.Packed.{file_of}
use Rattle.msf_blocks.specs.Superblock.{superblock_text}
use Rattle.msf_image.proofs.packed.file_of.Given as goal

abbrev pub invariant-loop-b : goal.invariant-loop-b
invariant-loop-b l = l.file.items ≡ file_of l.head.block (superblock_text l.head) l.map l.content l.b
