-- A commit that may be built on an image: its edits may be planned, and what their plan needs.
use Rattle.std.proofs.Common.{◌≡◌, ◌<◌, ℕ, Bool, true, false, sym, ap, subst, ◌∙◌, arith}
use Rattle.msf_image.specs.declared.image.Image.{Image}
use Rattle.cow_streams.specs.Edits.{AreEdits}
use Rattle.cow_streams.specs.Plan.{IsPlan}
use Rattle.cow_streams.specs.Planned.{Planned, new_blocks, new_dir_bytes, planned}
use Rattle.type_store.specs.Planning.{Commit, IsBaseImage, IsWrittenImage, MayCommit, edits_of}
use Rattle.type_store.specs.Shape.{AreBaseSizes, MayNeed, Shape, directory_bytes, shape_of, sizes_in, written_sizes}
use Rattle.table_model.specs.Tables.{Tables}
use Rattle.type_store.proofs.Changes.{sizes_after}
use Rattle.type_store.proofs.Counting.{commit_sizes, planned_sizes}
use Rattle.type_store.proofs.Making.{base_sizes, edits_allowed}
use Rattle.type_store.proofs.Needing.{blocks_needed, directory_needed}

image_sizes : (fresh : Bool) (shape : Shape) (first tables : Tables) (image : Image) → IsBaseImage fresh shape first tables image → AreBaseSizes fresh shape first tables (sizes_in image.directory)
image_sizes true shape first tables image base = (base.0.sizes, base.1)
image_sizes false shape first tables image base = base.sizes

module _ (c : Commit) (image : Image) (may : MayCommit c image) where
  abbrev size : ℕ
  size = image.head.block

  abbrev shape : Shape
  shape = shape_of size c.shape.blocks c.shape.sizes c.kept

  block : size ≡ c.shape.block
  block = sym (ap (λ (s : Shape). s.block) may.shape_is)

  base : AreBaseSizes c.fresh shape c.first c.old (sizes_in image.directory)
  base = subst (λ s. AreBaseSizes c.fresh s c.first c.old (sizes_in image.directory)) may.shape_is (image_sizes c.fresh c.shape c.first c.old image may.base)

  pub may_edit : AreEdits size image.directory (edits_of c size)
  may_edit =
      edits_allowed size c.fresh c.limits c.kept c.info c.age c.old c.tables image.directory may.can may.on may.within may.short
      (base_sizes c.fresh size c.shape.blocks c.shape.sizes (sizes_in image.directory) c.kept c.info c.first c.old may.can may.room base)

  sizes : sizes_after (edits_of c size) (sizes_in image.directory) ≡ written_sizes c.shape c.tables
  sizes =
      commit_sizes size c.shape.blocks c.fresh c.limits c.kept c.info c.age c.first c.old c.tables c.shape.sizes (sizes_in image.directory) may.can may.room base may.on may.within may.short
      ∙ ap (λ s. written_sizes s c.tables) (sym may.shape_is)

  pub may_directory : new_dir_bytes image (edits_of c size) ≡ directory_bytes c.shape c.tables
  may_directory = directory_needed c.shape c.old c.tables image (edits_of c size) block may.whole sizes

  pub may_blocks : (needed : ℕ) → needed ≡ new_blocks image (edits_of c size) → image.head.blocks < needed → MayNeed c.shape c.tables needed
  may_blocks needed is more =
      subst (λ n. MayNeed c.shape c.tables n) (sym is)
      (blocks_needed c.fresh c.shape c.first c.old c.tables image (edits_of c size) block may.whole sizes may.on may.base (omega (arith, more, is)))

pub may_go_on : (c : Commit) (limit : ℕ) (image : Image) (p : Planned) → MayCommit c image → p ≡ planned image (edits_of c image.head.block) → IsPlan limit image (edits_of c image.head.block) p → IsWrittenImage c.shape c.tables p.image
may_go_on c limit image p may is plan = record {
  sizes = ap (λ (q : Planned). sizes_in q.image.directory) is ∙ planned_sizes image (edits_of c image.head.block) ∙ sizes c image may;
  dir_bytes = ap (λ (q : Planned). q.image.head.dir_bytes) is ∙ may_directory c image may;
  whole = plan.whole;
  complete = plan.complete;
}
