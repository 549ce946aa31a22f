use Rattle.std.proofs.Common.{◌≡◌, length, ap, sym, ◌∙◌, arith}
use Rattle.srv_edge.specs.Records.{joined}
use Rattle.record_table.specs.Table.{HasRoomFor, Table, bytes_in}
use Rattle.record_table.proofs.Kept.{kept_still}
use Rattle.record_table.proofs.table.RecordTable.add_hashed.Goals as goal

pub invariant_of-self : goal.invariant_of-self
invariant_of-self g c =
    let inside = c.self.inside in
    let table : Table = record { max_records = inside.max_records; max_bytes = inside.max_bytes; records = inside.records } in
    let had : c.bytes.result ≡ length (joined inside.records) = c.bytes.ensures ∙ ap bytes_in (sym c.self.view_is) in
    let room : HasRoomFor table c.args.bytes.now = record {
      few = omega (arith, c.len.ensures, c.if-len-self.false);
      short = omega (arith, had, c.if-needed-self.false);
    } in (
      kept_still table c.args.bytes.now c.keep.new.records c.keep.result c.self.invariant.0 c.requires.record room c.keep.ensures.ok c.keep.ensures.err,
      c.keep.ensures.hashes,
    )
