-- What a crash leaves of a file holds one of its cuts.
use Rattle.std.proofs.Common.{◌≡◌, ℕ, List, [], ◌∷◌, Some, Result, Ok, Err, inl, inr, refl, sym, ap, subst, ◌∙◌}
use Rattle.msf_blocks.specs.Judging.{◌>>=◌}
use Rattle.msf_image.specs.declared.image.Image.{Image}
use Rattle.msf_image.specs.Reads.{read_file}
use Rattle.msf_image.specs.Relation.{Reads, contents_in}
use Rattle.msf_image.proofs.Relating.{judged_from}
use Rattle.committer.specs.Stored as store
use Rattle.table_model.specs.Bounds.{Bounds}
use Rattle.table_model.specs.Cut.{Cut}
use Rattle.table_model.specs.File.{File, MayLeave, doubt, older, pending, settled}
use Rattle.type_store.specs.Commits.{Holds, HoldsOne, cut_told, held_from, held_in}
use Rattle.type_store.specs.Files.{TellsCut, TellsCuts}
use Rattle.type_store.specs.Holds.{Contents, holding}

held_of : (bounds : Bounds) (file : List ℕ) (image : Image) → read_file file bounds.blocks ≡ Ok image → held_in bounds file ≡ held_from bounds file image
unfolding held_in
held_of bounds file image is = ap (λ r. r >>= held_from bounds file) is

-- a file that reads as an image, with the contents that it has in another, holds what these tell
pub reads_hold : (bounds : Bounds) (seen file : List ℕ) (image : Image) (cut : Cut) → Reads file bounds.blocks image (contents_in seen image) → TellsCut bounds seen image cut → Holds bounds file cut
reads_hold bounds seen file image cut r told =
    ap (cut_told bounds) (held_of bounds file image (judged_from file bounds.blocks image (contents_in seen image) r)
    ∙ ap (λ (streams : Contents). holding bounds (Some [] ∷ streams)) (sym r.contents)) ∙ told

pub shown : (bounds : Bounds) (limit : ℕ) (seen : List ℕ) (s : store.File) (file : File) (image : List ℕ) → limit ≡ bounds.blocks → TellsCuts bounds seen s file → store.Shows limit s seen image → HoldsOne bounds (MayLeave file) image
shown bounds limit seen (store.settled i) (settled x) image is told shows =
    (x, (older, refl), reads_hold bounds seen image i x (subst (λ n. Reads image n i (contents_in seen i)) is shows) told)
shown bounds limit seen (store.settled i) (doubt x p) image is told shows = absurd told
shown bounds limit seen (store.doubt b n) (settled x) image is told shows = absurd told
shown bounds limit seen (store.doubt b n) (doubt x p) image is told (inl shows) =
    (x, (older, refl), reads_hold bounds seen image b x (subst (λ k. Reads image k b (contents_in seen b)) is shows) told.0)
shown bounds limit seen (store.doubt b n) (doubt x p) image is told (inr shows) =
    (p, (pending, refl), reads_hold bounds seen image n p (subst (λ k. Reads image k n (contents_in seen n)) is shows) told.1)
