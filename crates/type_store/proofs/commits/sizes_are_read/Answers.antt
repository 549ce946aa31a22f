use Rattle.type_store.proofs.ReadSizes.{directory_read, room_read, size_read}
use Rattle.std.proofs.Common.{drop}
use Rattle.type_store.proofs.commits.sizes_are_read.Goals as goal

pub returns-clause-sizes : goal.returns-clause-sizes
returns-clause-sizes c = λ file limit image contents i is le. size_read file limit image contents i is le

pub returns-clause-room : goal.returns-clause-room
returns-clause-room c = λ file limit image kept info tables contents can is have. room_read file limit image kept info tables contents can is have

pub returns-clause-directory : goal.returns-clause-directory
returns-clause-directory c = λ file limit image contents is. directory_read file limit image (drop 1 contents) is
