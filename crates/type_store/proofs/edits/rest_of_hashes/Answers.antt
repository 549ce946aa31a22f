use Rattle.std.proofs.Common.{◌≡◌, ◌+◌, ◌*◌, length, ap, ◌∙◌, arith}
use Rattle.std.proofs.lemmas.List.{append-nil}
use Rattle.tpi_stream.specs.Hashes.{hash_text}
use Rattle.type_store.proofs.Building.{hash_len, hash_short}
use Rattle.type_store.proofs.edits.rest_of_hashes.Goals as goal

pub overflow_cast-len : goal.overflow_cast-len
overflow_cast-len c =
    let short = hash_short c.args.change.now.old.now c.args.change.now.new.now c.args.change.now.records.now c.requires.change in
    omega (arith, short, ap length c.offsets-offsets.ensures)

pub overflow_add-len : goal.overflow_add-len
overflow_add-len c =
    let short = hash_short c.args.change.now.old.now c.args.change.now.new.now c.args.change.now.records.now c.requires.change in
    omega (arith, short, c.count.ensures, ap length c.offsets-offsets.ensures)

pub returns : goal.returns
returns c =
    let change = c.args.change.now in
    let len = hash_len c.args.kept.buckets change.old.now change.new.now change.records.now c.requires.change in
    let n : 4 * c.count.result + length c.offsets-offsets.result.now ≡ length (hash_text change.records.now c.args.kept.buckets) = omega (arith, len, c.count.ensures, ap length c.offsets-offsets.ensures) in
    c.new.ensures ∙ λ i. record { stream = c.from.ensures i; at = c.args.at; bytes = (append-nil c.in_ok-bytes.bytes.items ∙ c.in_ok-bytes.ensures) i; len = n i }
