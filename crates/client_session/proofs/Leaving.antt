-- Which cuts a crash leaves of a file.
use Rattle.std.proofs.Common.{◌≡◌, ◌⊎◌, inl, inr, Some, refl, sym, ap, subst}
use Rattle.table_model.specs.Cut.{Cut}
use Rattle.table_model.specs.File.{File, MayLeave, Which, older, pending, cut_left, settled, doubt, newest_cut, resolution}
use Rattle.type_store.specs.Files.{FailsTo}

left_of_settled : (x c : Cut) (which : Which) → cut_left (settled x) which ≡ Some c → c ≡ x
left_of_settled x c older e = cc
left_of_settled x c pending e = cc

-- a crash leaves the cut of a settled file
pub settled_leaves : (x c : Cut) → MayLeave (settled x) c → c ≡ x
settled_leaves x c leaves = left_of_settled x c leaves.0 leaves.1

leaves_newest : (f : File) → MayLeave f (newest_cut f)
leaves_newest (settled x) = (older, refl)
leaves_newest (doubt x p) = (pending, refl)

left_of_doubt : (x p c : Cut) (which : Which) → cut_left (doubt x p) which ≡ Some c → (c ≡ x) ⊎ (c ≡ p)
left_of_doubt x p c older e = inl cc
left_of_doubt x p c pending e = inr cc

-- the file settled on its newest cut
resolved_leaves : (f : File) (c : Cut) → MayLeave (resolution f) c → MayLeave f c
resolved_leaves (settled x) c leaves = leaves
resolved_leaves (doubt x p) c leaves = (pending, ap Some (sym (settled_leaves p c leaves)))

-- what a crash leaves behind a commit that failed it might have left before, or it is that commit
pub failed_leaves : (f g : File) (p c : Cut) → FailsTo f p g → MayLeave g c → MayLeave f c ⊎ (c ≡ p)
failed_leaves f g p c (inl same) leaves = inl (subst (λ h. MayLeave h c) same leaves)
failed_leaves f g p c (inr (inl resolved)) leaves = inl (resolved_leaves f c (subst (λ h. MayLeave h c) resolved leaves))
failed_leaves f g p c (inr (inr begun)) leaves =
    let left = subst (λ h. MayLeave h c) begun leaves in
    elim (left_of_doubt (newest_cut f) p c left.0 left.1) [
      | inl newest ↦ inl (subst (λ x. MayLeave f x) (sym newest) (leaves_newest f))
      | inr new ↦ inr new
    ]
