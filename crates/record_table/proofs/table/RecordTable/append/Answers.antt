use Rattle.std.proofs.Common.{sym, subst}
use Rattle.record_table.specs.Table.{HasRoomFor, Table}
use Rattle.record_table.proofs.Kept.{kept_still}
use Rattle.record_table.proofs.table.RecordTable.append.Goals as goal

pub invariant_of-self : goal.invariant_of-self
invariant_of-self c =
    let inside = c.self.inside in
    let table : Table = record { max_records = inside.max_records; max_bytes = inside.max_bytes; records = inside.records } in
    let room : HasRoomFor table c.args.bytes.now = subst (λ (t : Table). HasRoomFor t c.args.bytes.now) (sym c.self.view_is) c.requires.room in (
      kept_still table c.args.bytes.now c.keep.new.records c.keep.result c.self.invariant.0 c.requires.record room c.keep.ensures.ok c.keep.ensures.err,
      c.keep.ensures.hashes,
    )
