-- A new file, once it is written.
use Rattle.std.proofs.Common.{◌≡◌, ◌≤◌, ℕ, List, [], drop, Option, sym, subst, ap, ◌∙◌, arith, lit<}
use Rattle.msf_image.specs.declared.image.Image.{Image}
use Rattle.msf_image.specs.Packed.{IsPackable, packed_file, packed_image, packed_super}
use Rattle.msf_image.specs.Reads.{IsWhole}
use Rattle.msf_image.specs.Relation.{Reads}
use Rattle.msf_image.proofs.PackedFile.{packed_reads, packed_whole}
use Rattle.cow_streams.specs.Packing.{new_plan}
use Rattle.cow_streams.specs.Planned.{Planned}
use Rattle.cow_streams.proofs.NewFile.{packs, placed}
use Rattle.committer.specs.Stored.{IsSettled}
use Rattle.committer.specs.Writing.{IsWritable, file_with}

module _ (size : ℕ) (streams : List (Option (List ℕ))) (p : IsPackable size streams) where
  -- a device takes its plan
  pub new_writable : (plan : Planned) → plan ≡ new_plan size streams → IsWritable plan
  new_writable plan is =
      subst IsWritable (sym is) (record {
        whole = packed_whole size 0 streams (lit< tt) p;
        placed = λ k d lt. let w = placed size streams p k d lt in (w.0, omega (arith, w.1, p.blocks), w.2);
      })

  -- and is the packed file then
  pub created : (plan : Planned) (seen file : List ℕ) → plan ≡ new_plan size streams → seen ≡ [] → file ≡ file_with seen plan → file ≡ packed_file size 0 streams
  created plan seen file is none written = written ∙ ap (λ f. file_with f plan) none ∙ ap (file_with []) is ∙ packs size streams p

  pub created_reads : (limit : ℕ) (image : Image) (file : List ℕ) → (packed_super size 0 streams).blocks ≤ limit → image ≡ packed_image size 0 streams → file ≡ packed_file size 0 streams → Reads file limit image (drop 1 streams)
  created_reads limit image file few same is =
      subst (λ i. Reads file limit i (drop 1 streams)) (sym same) (subst (λ f. Reads f limit (packed_image size 0 streams) (drop 1 streams)) (sym is) (packed_reads size 0 limit streams (lit< tt) p few))

  pub created_settled : (limit : ℕ) (image : Image) (seen : List ℕ) (images : List ℕ → Type 0) → (packed_super size 0 streams).blocks ≤ limit → image ≡ packed_image size 0 streams → ((c : List ℕ) → images c → images seen)
      → ((c : List ℕ) → images c → c ≡ packed_file size 0 streams) → IsSettled limit image seen images
  created_settled limit image seen images few same there are = record {
    whole = subst IsWhole (sym same) (packed_whole size 0 streams (lit< tt) p);
    limited = subst (λ (i : Image). i.head.blocks ≤ limit) (sym same) few;
    reads = λ c now.
        let reads = created_reads limit image seen few same (are seen (there c now)) in
        subst (Reads c limit image) reads.contents (created_reads limit image c few same (are c now));
  }
