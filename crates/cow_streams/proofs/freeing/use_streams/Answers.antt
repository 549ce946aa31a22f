use Rattle.std.proofs.Common.{◌+◌, ◌<◌, All, take, sym, ap, subst, ◌∙◌}
use Rattle.std.specs.List.{flat_map}
use Rattle.free_page_maps.specs.FreeBlocks.{FreeBlocks}
use Rattle.stream_directory.specs.Directory.{blocks_in}
use Rattle.msf_image.proofs.Joining.{inside_piece}
use Rattle.cow_streams.specs.Freeing.{without_all}
use Rattle.cow_streams.proofs.Loops.{without_all-blocks, without_streams_more}
use Rattle.cow_streams.proofs.freeing.use_streams.Goals as goal
use Rattle.cow_streams.proofs.freeing.use_streams.Goals.{in-Some, in_default}

pub use_all-requires : goal.use_all-requires
use_all-requires c =
    let n = c.args.free.now.blocks in
    let all = inside_piece blocks_in c.args.streams.now c.loop-stream.stream-index c.stream-item.result (λ b. b < n) c.loop-stream-test.true c.stream-item.is c.requires.inside in
    let these = subst (All (λ b. b < n)) (ap blocks_in c.in-Some.is ∙ sym c.blocks-in-Some.ensures) all in
    record { inside = subst (λ m. All (λ b. b < m) c.blocks-in-Some.result.now) (sym c.loop-stream.invariant.blocks) these }

pub loop-stream-preserved : goal.loop-stream-preserved
loop-stream-preserved c =
    let xs = c.args.streams.now in
    let i = c.loop-stream.stream-index in
    let x = c.stream-item.result in
    let m = c.args.free.now in
    let now = c.loop-stream.invariant in
    let so_far = without_all m (flat_map blocks_in (take i xs)) in
    let more = sym (without_streams_more blocks_in m xs i x c.loop-stream-test.true c.stream-item.is) in
    elim c.match-stream.branch [
      | in-Some w ↦
          let is = w.free-is ∙ w.use_all.ensures ∙ ap (without_all c.loop-stream.free) (w.blocks-in-Some.ensures ∙ ap blocks_in (sym w.in-Some.is)) ∙ ap (λ f. without_all f (blocks_in x)) now.now ∙ more in
          record { now = is; blocks = ap (λ (f : FreeBlocks). f.blocks) is ∙ without_all-blocks m (flat_map blocks_in (take (i + 1) xs)) }
      | in_default w ↦
          let is = w.free-is ∙ now.now ∙ ap (λ y. without_all so_far (blocks_in y)) (sym w.in_default.is) ∙ more in
          record { now = is; blocks = ap (λ (f : FreeBlocks). f.blocks) is ∙ without_all-blocks m (flat_map blocks_in (take (i + 1) xs)) }
    ]
