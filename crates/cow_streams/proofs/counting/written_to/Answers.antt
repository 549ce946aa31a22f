use Rattle.std.proofs.Common.{◌*◌, sym, ap, ◌∙◌, refl, arith}
use Rattle.std.specs.List.{list_any}
use Rattle.cow_streams.specs.Edits.{edit_at, has_byte}
use Rattle.cow_streams.proofs.LayoutLoops.{counted_none, counted_one, written_more}
use Rattle.cow_streams.proofs.counting.written_to.Goals as goal
use Rattle.cow_streams.proofs.counting.written_to.Goals.{then-is_edited, else-is_edited}

pub loop-k-preserved : goal.loop-k-preserved
loop-k-preserved c =
    let size = c.args.block_size in
    let i = c.args.i in
    let edits = c.args.edits.now in
    let k = c.loop-k.k in
    let now = c.loop-k.invariant in
    let more = written_more size edits i c.args.stream.now.blocks k (edit_at edits i (k * size)) refl in
    let is = sym (c.is_edited.ensures ∙ ap (λ at. list_any (has_byte i at) edits) c.block_offset.ensures) in
    elim c.if-is_edited.branch [
      | then-is_edited w ↦
          let one = counted_one (has_byte i (k * size)) edits (is ∙ w.if-is_edited.true) in
          record { counted = omega (arith, w.written-is, now.counted, more, one); few = omega (arith, w.written-is, now.few) }
      | else-is_edited w ↦
          let none = counted_none (has_byte i (k * size)) edits (is ∙ w.if-is_edited.false) in
          record { counted = omega (arith, w.written-is, now.counted, more, none); few = omega (arith, w.written-is, now.few) }
    ]
