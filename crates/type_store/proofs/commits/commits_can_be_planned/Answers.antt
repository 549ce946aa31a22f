use Rattle.type_store.proofs.Short.{directory_short}
use Rattle.type_store.proofs.Missing.{commit_shares}
use Rattle.type_store.proofs.Planning.{may_blocks, may_directory, may_edit, may_go_on}
use Rattle.type_store.proofs.commits.commits_can_be_planned.Goals as goal

pub returns-clause-edits : goal.returns-clause-edits
returns-clause-edits c = λ commit image may. may_edit commit image may

pub returns-clause-directory : goal.returns-clause-directory
returns-clause-directory c = λ commit image may. may_directory commit image may

pub returns-clause-short : goal.returns-clause-short
returns-clause-short c = λ limits shape tables block within short. directory_short limits shape tables block within short

pub returns-clause-blocks : goal.returns-clause-blocks
returns-clause-blocks c = λ commit image needed may is more. may_blocks commit image may needed is more

pub returns-clause-next : goal.returns-clause-next
returns-clause-next c = λ commit limit image p may is plan. may_go_on commit limit image p may is plan

pub returns-clause-shares : goal.returns-clause-shares
returns-clause-shares c = λ commit limit image p may plan. commit_shares commit limit image p may plan
