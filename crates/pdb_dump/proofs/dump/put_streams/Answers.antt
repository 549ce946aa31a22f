use Rattle.std.proofs.Common.{◌≡◌, ◌+◌, ◌++◌, ◌<◌, ℕ, None, get_or, length, refl, sym, ap, ◌∙◌, arith}
use Rattle.pdb_dump.specs.Dump.{stream_line}
use Rattle.pdb_dump.proofs.Lines.{put_next, read_is}
use Rattle.pdb_dump.proofs.dump.put_streams.Goals as goal

pub loop-i-preserved : goal.loop-i-preserved
loop-i-preserved c =
    let line = λ (k : ℕ). stream_line c.args.block_size k (get_or c.args.directory.now k None) in
    let i = c.loop-i.i in
    let lt : i < length c.args.directory.now = omega (arith, c.loop-i-test.true, c.len-i-end.ensures) in
    let is = c.index-streams-i.is ∙ ap (λ xs. get_or xs i c.index-streams-i.result) c.streams-streams.ensures in
    let stream = read_is c.args.directory.now i c.index-streams-i.result None lt is in
    let put : c.put_stream.new.text.items ≡ c.loop-i.text.items ++ line i =
    c.in_ok-put_stream.ensures ∙ ap (λ s. c.loop-i.text.items ++ stream_line c.args.block_size i s) stream
    in
    put ∙ put_next line c.args.text.now.items c.loop-i.text.items i c.loop-i.invariant
