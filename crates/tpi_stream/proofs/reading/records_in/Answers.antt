use Rattle.std.proofs.Common.{◌<◌, ◌+◌, ◌-◌, ◌++◌, ◌∷◌, [], Err, length, ap, sym, ◌∙◌, arith}
use Rattle.std.proofs.lemmas.Bool.{eqb-false, eqb-true}
use Rattle.tpi_stream.specs.declared.fault.TpiFault.TheVariants.{Record}
use Rattle.tpi_stream.proofs.RecordLists.{so_far_end, so_far_fault, so_far_next}
use Rattle.tpi_stream.proofs.reading.records_in.Goals as goal

pub returns-in_default : goal.returns-in_default
returns-in_default c =
    let bytes = c.args.bytes.now in
    let rest = c.loop-rest.rest.now in
    let some : 0 < length rest = omega (arith, eqb-false (length rest) 0 (sym c.is_empty.ensures ∙ c.loop-rest-test.true)) in
    so_far_fault bytes c.loop-rest.list rest c.loop-rest.invariant some c.in_default.ensures ∙ ap (λ k. Err (Record (k + (length bytes - length rest)))) (sym c.from.ensures)

pub loop-rest-preserved : goal.loop-rest-preserved
loop-rest-preserved c =
    let bytes = c.args.bytes.now in
    let list = c.loop-rest.list in
    let rest = c.loop-rest.rest.now in
    let next = so_far_next bytes list rest c.loop-rest.invariant c.in-Some.ensures.0 in
    let pushed = c.in_ok-push.ensures.ok ∙ ap (λ r. list ++ r ∷ []) c.in-Some.ensures.1 in
    rw (pushed, c.in-Some.ensures.2) next

pub returns : goal.returns
returns c =
    so_far_end c.args.bytes.now c.loop-rest.list c.loop-rest.rest.now c.loop-rest.invariant (eqb-true (length c.loop-rest.rest.now) 0 (sym c.is_empty.ensures ∙ c.loop-rest-test.false))
