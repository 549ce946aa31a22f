use Rattle.std.proofs.Common.{◌≡◌, ◌<◌, ◌-◌, ◌%◌, ◌++◌, ℕ, List, length, drop, take, sym, ap, ◌∙◌, arith}
use Rattle.std.specs.List.{flat_map, slice_index}
use Rattle.std.proofs.lemmas.List.{flat_map_more, length-drop, take_more}
use Rattle.std.proofs.Math.Seq.{take-length}
use Rattle.byteorder.specs.Endian.{little_bytes}
use Rattle.srv_edge.specs.Frames.{word_bytes}
use Rattle.tpi_stream.proofs.hashes.put_hashes.Goals as goal

pub loop-hash-preserved : goal.loop-hash-preserved
unfolding word_bytes
loop-hash-preserved c =
    let buckets = c.args.buckets in
    let hashes = drop c.args.from c.args.hashes.now in
    let i = c.loop-hash.hash-index in
    let old = c.args.text.now.items in
    let whole : take (length c.args.hashes.now - c.args.from) hashes ≡ hashes = ap (λ n. take n hashes) (sym (length-drop c.args.from c.args.hashes.now)) ∙ take-length hashes in
    let lt : i < length hashes = omega (arith, c.loop-hash-test.true, ap length whole) in
    let put : List ℕ → List ℕ = λ hs. old ++ flat_map (λ h. little_bytes 4 (h % buckets)) hs in
    c.in_ok-extend_from_slice.ensures.items ∙ (λ k. c.loop-hash.invariant k ++ c.word.ensures k)
    ∙ ap (λ (hs : List ℕ). put (take i hashes) ++ little_bytes 4 (slice_index hs i % buckets)) whole
    ∙ flat_map_more (λ h. little_bytes 4 (h % buckets)) old (take i hashes) (slice_index hashes i)
    ∙ ap put (sym (take_more hashes i 0 lt))
