use Rattle.std.proofs.Common.{◌<◌, [], All, ap, subst, ◌∙◌}
use Rattle.stream_directory.specs.Directory.{AreUsable}
use Rattle.stream_directory.proofs.Streams.{usable_from_none}
use Rattle.msf_blocks.proofs.Judging.{unless_ok}
use Rattle.msf_image.proofs.Directories.{done}
use Rattle.msf_image.proofs.Listed.{listed_behind, listed_err, listed_inside, listed_ok}
use Rattle.msf_image.proofs.open.read_listed.Goals as goal

pub returns-in_err-judge-clause-reads : goal.returns-in_err-judge-clause-reads
returns-in_err-judge-clause-reads g c = λ tells.
    listed_err tt _ _ c.args.head.now _ c.deref.result.now c.deref-2.result.now c.in_err-judge.field-0.0 (c.deref.ensures.value ∙ c.in_ok-block_map.ensures.bytes tells) (c.deref-2.ensures.value ∙ c.in_ok-listed.ensures.listed) c.from_residual-in_err-judge.ensures.1 c.in_err-judge.ensures

pub returns-clause-used : goal.returns-clause-used
returns-clause-used g c =
    subst (All (λ b. b < c.args.head.now.blocks)) c.deref-2.ensures.value (listed_inside c.args.head.now c.deref-2.result.now (unless_ok _ tt _ c.in_ok-judge.ensures).0)

pub returns-clause-usable : goal.returns-clause-usable
returns-clause-usable g c =
    subst (AreUsable c.args.head.now []) c.deref-2.ensures.value (usable_from_none c.args.head.now [] c.deref-2.result.now (unless_ok _ tt _ c.in_ok-judge.ensures).0)

pub returns-clause-block_map : goal.returns-clause-block_map
returns-clause-block_map g c = listed_behind c.args.head.now.map_addr _ _ c.in_ok-listed.ensures.listed

pub returns-clause-reads : goal.returns-clause-reads
returns-clause-reads g c = λ tells.
    listed_ok c.args.head.now _ c.deref.result.now c.deref-2.result.now (c.deref.ensures.value ∙ c.in_ok-block_map.ensures.bytes tells) (c.deref-2.ensures.value ∙ c.in_ok-listed.ensures.listed) (unless_ok _ tt _ c.in_ok-judge.ensures).0
    ∙ ap done c.deref-2.ensures.value
