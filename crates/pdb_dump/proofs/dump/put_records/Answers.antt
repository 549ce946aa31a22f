use Rattle.std.proofs.Common.{◌≡◌, ◌+◌, ◌++◌, ℕ, [], get_or, length, refl, sym, ap, ◌∙◌}
use Rattle.std.proofs.lemmas.Option.{get_or_from_slice_get}
use Rattle.record_table.specs.Table.{index_at}
use Rattle.pdb_dump.specs.Dump.{record_line}
use Rattle.pdb_dump.proofs.Lines.{put_next}
use Rattle.pdb_dump.proofs.dump.put_records.Goals as goal

pub loop-position-preserved : goal.loop-position-preserved
loop-position-preserved c =
    let line = λ (k : ℕ). record_line c.args.word.now (index_at k) (get_or c.args.records.now k []) in
    let i = c.loop-position.position in
    let r = get_or_from_slice_get c.args.records.now i c.in-Some.record.now [] c.in-Some.ensures.record in
    let put : c.put_record.new.text.items ≡ c.loop-position.text.items ++ line i =
    c.in_ok-put_record.ensures ∙ ap (λ x. c.loop-position.text.items ++ record_line c.args.word.now (index_at i) x) (sym r)
    in
    put ∙ put_next line c.args.text.now.items c.loop-position.text.items i c.loop-position.invariant
