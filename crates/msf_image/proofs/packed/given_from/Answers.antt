use Rattle.std.proofs.Common.{◌+◌, ◌++◌, [], ◌∷◌, refl, sym, ap, ◌∙◌}
use Rattle.std.proofs.lemmas.List.FromFn.{map-range_with_len_more}
use Rattle.msf_image.specs.Packed.{given_block, given_from}
use Rattle.msf_image.proofs.packed.given_from.Goals as goal

pub loop-i-preserved : goal.loop-i-preserved
loop-i-preserved c =
    let more = map-range_with_len_more (given_block c.args.block) c.args.first c.loop-i.i (c.args.first + c.loop-i.i) refl in
    c.in_ok-push.ensures.items ∙ ap (λ xs. xs ++ c.given_block.result ∷ []) c.loop-i.invariant ∙ ap (λ b. given_from c.args.block c.args.first c.loop-i.i ++ b ∷ []) c.given_block.ensures ∙ sym more
