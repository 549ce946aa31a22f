use Rattle.std.proofs.Common.{◌+◌, ◌-◌, ◌*◌, ◌/◌, ◌++◌, take, drop, min, ap, ◌∙◌, arith}
use Rattle.cow_streams.proofs.Pieces.{piece_is}
use Rattle.cow_streams.proofs.laying.piece_of.Goals as goal

pub returns : goal.returns
returns c =
    let e = c.args.e.now in
    let size = c.args.block_size in
    let from = c.min-from.result in
    let end = c.min-end.result in
    let part = c.put_bytes.new.to in
    piece_is size (c.args.k - e.at / size) from end part.len e.bytes part.items c.resize.new.self.items
    (c.min-from.ensures ∙ λ i. min (c.bytes_len.ensures i) ((c.args.k - c.at.ensures i / size) * size))
    (c.min-end.ensures ∙ ap (λ n. min n (from + size)) c.bytes_len-2.ensures)
    (c.in_ok-put_bytes.ensures ∙ ap (λ xs. xs ++ take (end - from) (drop from e.bytes)) c.in_ok-piece.ensures.items)
    (omega (arith, part.ok.1))
    c.in_ok-resize.ensures.items
