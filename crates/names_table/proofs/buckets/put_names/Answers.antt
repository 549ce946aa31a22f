use Rattle.std.proofs.Common.{length, refl, ap, ◌∙◌, arith}
use Rattle.names_table.specs.Buckets.{name_hash, with_offset}
use Rattle.names_table.proofs.FreeBuckets.{Next, holds, next, so_far_all, so_far_next, so_far_none}
use Rattle.names_table.proofs.buckets.put_names.Goals as goal

-- the name that is put
here : (c : goal.After-name_hash) → Next c.args.names.now c.loop-name.i c.in-Some.name.now
here c = next c.args.names.now c.loop-name.i c.in-Some.name.now c.in-Some.ensures

pub loop-name-init : goal.loop-name-init
loop-name-init c = record {
  so_far = so_far_none c.args.version c.args.names.now c.args.buckets.now c.requires.room;
  leads = c.requires.leads;
  count = refl;
}

pub put_offset-requires : goal.put_offset-requires
put_offset-requires c = record {
  some = c.loop-name.invariant.so_far.some;
  few = omega (arith, c.loop-name.invariant.count, c.requires.few);
  free = omega (arith, (here c).inside, c.loop-name.invariant.so_far.room);
  leads = c.loop-name.invariant.leads;
}

pub overflow_cast-offset : goal.overflow_cast-offset
overflow_cast-offset c =
    let n = next c.args.names.now c.loop-name.i c.in-Some.name.now c.in-Some.ensures in
    omega (arith, n.bytes, n.some, c.loop-name.invariant.so_far.behind, c.requires.short)

pub overflow_add-offset : goal.overflow_add-offset
overflow_add-offset c =
    let n = next c.args.names.now c.loop-name.i c.in-Some.name.now c.in-Some.ensures in
    omega (arith, n.bytes, n.some, c.loop-name.invariant.so_far.behind, c.requires.short)

pub overflow_add-offset-in-Some : goal.overflow_add-offset-in-Some
overflow_add-offset-in-Some c =
    let n = next c.args.names.now c.loop-name.i c.in-Some.name.now c.in-Some.ensures in
    omega (arith, n.bytes, n.some, c.loop-name.invariant.so_far.behind, c.requires.short)

pub overflow_add-i : goal.overflow_add-i
overflow_add-i c =
    let n = next c.args.names.now c.loop-name.i c.in-Some.name.now c.in-Some.ensures in
    omega (arith, n.inside, n.few, c.requires.short)

pub loop-name-smaller : goal.loop-name-smaller
loop-name-smaller c =
    let n = next c.args.names.now c.loop-name.i c.in-Some.name.now c.in-Some.ensures in
    omega (arith, n.inside)

pub loop-name-preserved : goal.loop-name-preserved
loop-name-preserved c =
    let put = c.put_offset.ensures.buckets ∙ ap (λ hash. with_offset hash c.loop-name.offset c.loop-name.buckets) c.name_hash.ensures in
    record {
      so_far = rw put
          (so_far_next c.args.version c.args.names.now c.args.buckets.now c.loop-name.i c.loop-name.offset c.loop-name.buckets c.in-Some.name.now c.loop-name.invariant.so_far
          c.in-Some.ensures);
      leads = c.put_offset.ensures.leads;
      count = ap length put ∙ (holds (name_hash c.args.version c.in-Some.name.now) c.loop-name.offset c.loop-name.buckets (λ e. omega (arith, e, c.loop-name.invariant.so_far.some)) (omega (arith, c.loop-name.invariant.so_far.room, (next c.args.names.now c.loop-name.i c.in-Some.name.now c.in-Some.ensures).inside))).size ∙ c.loop-name.invariant.count;
    }

pub returns : goal.returns
returns c =
    so_far_all c.args.version c.args.names.now c.args.buckets.now c.loop-name.i c.loop-name.offset c.loop-name.buckets c.loop-name.invariant.so_far c.in_default.ensures
