use Rattle.std.proofs.Common.{ap, sym, ◌∙◌}
use Rattle.std.specs.Prelude.{is_ok}
use Rattle.type_hash.specs.Record.{is_line}
use Rattle.type_hash.proofs.RecordLemmas.{broken_untagged, other_untagged, short_untagged}
use Rattle.type_hash.proofs.record.of_untagged.Goals as goal
use Rattle.type_hash.proofs.record.of_untagged.Goals.{else-bytes-ge8-via-then-bytes-ge8+then-is_line+else-is_ok, else-bytes-ge8-via-then-bytes-ge8+else-is_line, else-bytes-ge8-via-else-bytes-ge8}

pub returns-else-bytes-ge8 : goal.returns-else-bytes-ge8
returns-else-bytes-ge8 c =
    let r = c.args.bytes.now in
    c.buffer.ensures ∙ sym (elim c.else-bytes-ge8.branch [
      | else-bytes-ge8-via-then-bytes-ge8+then-is_line+else-is_ok w ↦
          broken_untagged r (ap is_ok (sym w.check.ensures.leaf) ∙ sym w.if-is_ok.ensures.value)
      | else-bytes-ge8-via-then-bytes-ge8+else-is_line w ↦
          other_untagged r (ap is_line (sym w.record_kind.ensures) ∙ sym w.if-is_line.ensures)
      | else-bytes-ge8-via-else-bytes-ge8 w ↦ short_untagged r w.if-bytes-ge8.false
    ])
