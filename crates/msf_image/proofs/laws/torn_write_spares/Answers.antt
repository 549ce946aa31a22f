use Rattle.msf_image.proofs.Sparing.{spare_block, torn_block}
use Rattle.msf_image.proofs.laws.torn_write_spares.Goals as goal

pub returns-clause-block : goal.returns-clause-block
returns-clause-block c = torn_block

pub returns-clause-spare : goal.returns-clause-spare
returns-clause-spare c = spare_block
