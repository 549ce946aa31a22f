use Rattle.std.proofs.Common.{sym, ◌∙◌, arith}
use Rattle.std.proofs.lemmas.Grind.{common_steps}
use Rattle.table_model.proofs.Searching.{place_of-here, place_of-further}
use Rattle.table_model.proofs.search.place_of.Goals as goal
use Rattle.table_model.proofs.search.place_of.Goals.{in_default-via-in-None-1, in_default-via-in-Some+else-eq}

pub returns-in-loop-place : goal.returns-in-loop-place
returns-in-loop-place c =
    sym (place_of-here c.args.records.now c.loop-place.place c.in-Some.record.now c.args.bytes.now c.loop-place.invariant c.in-Some.ensures.record (sym c.if-eq.ensures))

pub loop-place-preserved : goal.loop-place-preserved
loop-place-preserved c =
    elim c.in_default.branch [
      | in_default-via-in-None-1 w ↦ grind (arith, common_steps)
      | in_default-via-in-Some+else-eq w ↦ place_of-further c.args.records.now c.loop-place.place w.in-Some.record.now c.args.bytes.now c.loop-place.invariant w.in-Some.ensures.record (sym w.eq.ensures ∙ w.if-eq.false)
    ]
