use Rattle.std.proofs.Common.{arith}
use Rattle.names_table.proofs.Leading.{found_before, found_behind}
use Rattle.names_table.proofs.buckets.free_from.Goals as goal

pub returns-then-place-buckets-clause-first : goal.returns-then-place-buckets-clause-first
returns-then-place-buckets-clause-first c = found_behind c.args.buckets.now c.args.start c.free_behind-place.result c.free_behind-place.ensures.first c.if-place-buckets.true

pub returns-clause-inside : goal.returns-clause-inside
returns-clause-inside c =
    (found_before c.args.buckets.now c.args.start c.free_behind-place.result c.free_behind.result (omega (arith, c.requires.inside))
    c.free_behind-place.ensures.first c.if-place-buckets.false c.free_behind.ensures.first c.requires.free).inside

pub returns-clause-first : goal.returns-clause-first
returns-clause-first c =
    (found_before c.args.buckets.now c.args.start c.free_behind-place.result c.free_behind.result (omega (arith, c.requires.inside))
    c.free_behind-place.ensures.first c.if-place-buckets.false c.free_behind.ensures.first c.requires.free).is
