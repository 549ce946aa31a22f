use Rattle.std.proofs.Common.{◌∷◌, [], length, length-append, ap, sym, ◌∙◌, arith}
use Rattle.table_model.proofs.Counting.{length-joined_push, place_of-within}
use Rattle.table_model.proofs.plain.add_leaf.Goals as goal

pub overflow_add-result : goal.overflow_add-result
overflow_add-result c = omega (arith, place_of-within c.args.list.now c.args.bytes.now c.in-Some.place (sym c.place_of.ensures ∙ c.in-Some.is), c.requires.kept.few, c.args.limits.few_records)

pub returns-in-Ok-clause-kept : goal.returns-in-Ok-clause-kept
returns-in-Ok-clause-kept c =
    let list = c.args.list.now in
    let r = c.args.bytes.now in
    rw c.in-Ok.ensures.ok (record {
      few = omega (arith, length-append list (r ∷ []), c.len.ensures);
      short = omega (arith, length-joined_push list r, ap length c.joined.ensures.bytes, c.if-needed-limits.false);
    })
