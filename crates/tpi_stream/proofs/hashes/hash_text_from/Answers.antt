use Rattle.std.proofs.Common.{◌/◌, ◌%◌, ◌++◌, drop, sym, ap, ◌∙◌}
use Rattle.std.specs.List.{flat_map}
use Rattle.byteorder.specs.Endian.{little_bytes}
use Rattle.tpi_stream.proofs.Growing.{buckets_of_hashes, rest_of_hash_text}
use Rattle.tpi_stream.proofs.hashes.hash_text_from.Goals as goal

pub returns : goal.returns
returns c =
    let records = c.args.records.now in
    let buckets = c.args.buckets in
    let at = c.args.at in
    let put = flat_map (λ h. little_bytes 4 (h % buckets)) (drop (at / 4) c.args.hashes.now) in
    let hashes = c.in_ok-put_hashes.ensures ∙ ap (λ s. s ++ put) c.in_ok-text.ensures.items ∙ buckets_of_hashes buckets records c.args.hashes.now (at / 4) c.requires.hashes in
    c.in_ok-extend_from_slice.ensures.items ∙ (λ k. hashes k ++ c.requires.offsets k) ∙ sym (rest_of_hash_text buckets records at c.requires.bucket c.requires.inside)
