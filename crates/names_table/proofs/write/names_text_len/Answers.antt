use Rattle.std.proofs.Common.{◌≡◌, ◌+◌, ◌/◌, length, sym, ap, ◌∙◌, arith}
use Rattle.std.proofs.Math.Nat.{div-le_self}
use Rattle.names_table.specs.Buckets.{bucket_count}
use Rattle.names_table.proofs.Growing.{length-names_text}
use Rattle.names_table.proofs.Offsets.{length-le}
use Rattle.names_table.proofs.write.names_text_len.Goals as goal

pub bucket_count-requires : goal.bucket_count-requires
bucket_count-requires c = omega (arith, c.len.ensures, c.requires, length-le c.args.names.now)

pub overflow_mul-result : goal.overflow_mul-result
overflow_mul-result c = omega (arith, c.bucket_count.ensures, c.len.ensures, c.requires, length-le c.args.names.now, div-le_self c.len.result 4)

pub overflow_add-result-3 : goal.overflow_add-result-3
overflow_add-result-3 c = omega (arith, c.bytes.ensures, c.bucket_count.ensures, c.len.ensures, c.requires, length-le c.args.names.now, div-le_self c.len.result 4)

pub overflow_add-result-4 : goal.overflow_add-result-4
overflow_add-result-4 c = omega (arith, c.bytes.ensures, c.bucket_count.ensures, c.len.ensures, c.requires, length-le c.args.names.now, div-le_self c.len.result 4)

pub returns : goal.returns
returns c = λ version.
    let count : c.bucket_count.result ≡ bucket_count (length c.args.names.now) = c.bucket_count.ensures ∙ ap bucket_count c.len.ensures in
    omega (arith, length-names_text version c.args.names.now, count, c.bytes.ensures)
