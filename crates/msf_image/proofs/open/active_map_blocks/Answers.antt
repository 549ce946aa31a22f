use Rattle.std.proofs.Common.{◌≡◌, ◌≤◌, ◌*◌, ◌++◌, [], ◌∷◌, subst, ap, ◌∙◌, sym, map, arith}
use Rattle.std.specs.List.{range_with_len}
use Rattle.std.proofs.lemmas.List.FromFn.{map-range_with_len_more}
use Rattle.msf_blocks.specs.Blocks.{map_block, map_blocks}
use Rattle.msf_blocks.proofs.Sizes.{sized}
use Rattle.msf_image.proofs.Directories.{enough_map_blocks, few_map_blocks, map_count, map_inside}
use Rattle.msf_image.proofs.open.active_map_blocks.Goals as goal

pub loop-j-init : goal.loop-j-init
loop-j-init c = c.in_ok-blocks.ensures.items

pub loop-j-preserved : goal.loop-j-preserved
loop-j-preserved c =
    let more = map-range_with_len_more (map_block c.args.head.now.block c.args.head.now.map) 0 c.loop-j.j c.loop-j.j (omega arith) in
    c.in_ok-push.ensures.items ∙ ap (λ xs. xs ++ map_block c.args.head.now.block c.args.head.now.map c.loop-j.j ∷ []) c.loop-j.invariant ∙ sym more

pub returns-clause-few : goal.returns-clause-few
returns-clause-few c =
    let at_end : c.loop-j.j ≡ map_blocks c.args.head.now.block c.args.head.now.blocks = omega (arith, c.loop-j.auto.j-end, c.loop-j-test.false, c.map_blocks-count.ensures) in
    let most = few_map_blocks c.args.head.now.block c.args.head.now.blocks 4294967296 (sized c.args.head.now.block c.requires.passes.block).least (omega (arith, c.requires.passes.blocks_fit)) in
    omega (arith, most, map_count c.args.head.now c.loop-j.j _ at_end c.loop-j.invariant)

pub returns-clause-inside : goal.returns-clause-inside
returns-clause-inside c =
    map_inside c.args.head.now c.loop-j.j _ c.requires.passes (omega (arith, c.loop-j.auto.j-end, c.loop-j-test.false, c.map_blocks-count.ensures)) c.loop-j.invariant

pub returns-clause-enough : goal.returns-clause-enough
returns-clause-enough c =
    let at_end : c.loop-j.j ≡ map_blocks c.args.head.now.block c.args.head.now.blocks = omega (arith, c.loop-j.auto.j-end, c.loop-j-test.false, c.map_blocks-count.ensures) in
    let count = map_count c.args.head.now c.loop-j.j c.loop-j.blocks.items at_end c.loop-j.invariant in
    subst (λ n. c.args.head.now.blocks ≤ 8 * (n * c.args.head.now.block)) (sym count) (enough_map_blocks c.args.head.now.block c.args.head.now.blocks (sized c.args.head.now.block c.requires.passes.block).least)

pub returns-clause-blocks : goal.returns-clause-blocks
returns-clause-blocks c =
    c.loop-j.invariant ∙ ap (λ n. map (map_block c.args.head.now.block c.args.head.now.map) (range_with_len 0 n)) (omega (arith, c.loop-j.auto.j-end, c.loop-j-test.false, c.map_blocks-count.ensures))
