use Rattle.std.proofs.Common.{◌≡◌, ◌*◌, ◌-◌, ◌++◌, drop, replicate, take, ap, subst, ◌∙◌}
use Rattle.std.specs.Prelude.{OnOk}
use Rattle.std.proofs.lemmas.List.{append_assoc}
use Rattle.msf_image.specs.Packed.{block_of}
use Rattle.msf_image.proofs.PackedLoops.{part_is}
use Rattle.msf_image.proofs.packed.put_block.Goals as goal

pub returns : goal.returns
unfolding block_of
returns c =
    let from = c.min-from.result in
    let to = c.min-to.result in
    let same = ap (λ xs. xs ++ replicate (c.args.block - (to - from)) 0) c.in_ok-extend_from_slice.ensures.items ∙ append_assoc c.args.file.now.items (take (to - from) (drop from c.args.bytes.now)) (replicate (c.args.block - (to - from)) 0)
    ∙ ap (λ xs. c.args.file.now.items ++ xs) (part_is c.args.block (c.args.k * c.args.block) from to c.args.bytes.now c.min-from.ensures c.min-to.ensures) in
    subst (λ xs. OnOk c.put_zeros.result (c.put_zeros.new.bytes.items ≡ xs)) same c.put_zeros.ensures
