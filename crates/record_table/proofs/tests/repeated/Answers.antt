use Rattle.std.proofs.Common.{[], ◌∷◌, length-append, arith}
use Rattle.record_table.proofs.Kept.{length-joined_push}
use Rattle.record_table.proofs.tests.repeated.Goals as goal

pub loop-number-preserved : goal.loop-number-preserved
loop-number-preserved c =
    let old = c.loop-number.table in
    let had = c.loop-number.invariant in
    let r = c.modifier.result in
    rw c.in_ok-append.ensures.ok record {
      count = omega (arith, length-append old.records (r ∷ []), had.count);
      bytes = omega (arith, length-joined_push old.records r, c.modifier.ensures.length, had.bytes);
      max_records = had.max_records;
      max_bytes = had.max_bytes;
    }
