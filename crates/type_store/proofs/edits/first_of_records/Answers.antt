use Rattle.std.proofs.Common.{◌≡◌, ◌+◌, length, ap, ◌∙◌, arith}
use Rattle.std.proofs.lemmas.List.{append-nil}
use Rattle.tpi_stream.specs.Written.{record_stream_text}
use Rattle.type_store.proofs.Building.{first_is, record_len}
use Rattle.type_store.proofs.edits.first_of_records.Goals as goal

pub returns : goal.returns
returns c =
    let change = c.args.change.now in
    let text = record_stream_text c.args.kept change.records.now in
    let len = record_len c.args.kept change.old.now change.new.now change.records.now c.requires in
    let n : 56 + c.bytes-len.result ≡ length text = omega (arith, len, c.bytes-len.ensures) in
    first_is c.new.result c.args.block_size c.args.stream (56 + c.bytes-len.result) _ text c.new.ensures (append-nil c.in_ok-bytes.bytes.items ∙ c.in_ok-bytes.ensures) n
