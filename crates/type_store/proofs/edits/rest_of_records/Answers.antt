use Rattle.std.proofs.Common.{◌≡◌, ◌+◌, length, ap, ◌∙◌, arith}
use Rattle.tpi_stream.specs.Written.{record_stream_text}
use Rattle.type_store.proofs.Building.{record_len, rest_is}
use Rattle.type_store.proofs.edits.rest_of_records.Goals as goal

pub returns : goal.returns
returns c =
    let change = c.args.change.now in
    let text = record_stream_text c.args.kept change.records.now in
    let len = record_len c.args.kept change.old.now change.new.now change.records.now c.requires.change in
    let n : 56 + c.bytes-len.result ≡ length text = omega (arith, len, c.bytes-len.ensures) in
    rest_is c.new.result c.args.stream c.args.at (56 + c.bytes-len.result) _ text c.new.ensures c.in_ok-front.ensures n
