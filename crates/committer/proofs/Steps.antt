-- What the writes of a plan and its superblock make of a file.
use Rattle.std.proofs.Common.{◌≡◌, ◌≤◌, ◌<◌, ◌+◌, ◌⊎◌, ℕ, suc, add-one, List, [], ◌∷◌, length, take, drop, get_or, Option, refl, sym, subst, ap, ◌∙◌, inl, inr, arith}
use Rattle.std.specs.List.{AllByRecursion}
use Rattle.std.proofs.lemmas.List.Elements.{recursion_from_All}
use Rattle.std.proofs.lemmas.Nat.{mul-le}
use Rattle.std.proofs.Math.Seq.{drop-cons}
use Rattle.srv_edge.specs.Disk.{Follows, Torn, Whole, splice, with_head}
use Rattle.srv_edge.specs.Torn.{torn-splice}
use Rattle.srv_edge.proofs.Moments.{spared}
use Rattle.srv_edge.proofs.Ranges.{headed_holds, headed_keeps, length-with_head}
use Rattle.msf_blocks.specs.declared.superblock.Super.{Super}
use Rattle.msf_blocks.specs.Blocks.{IsBlockSize, block_offset}
use Rattle.msf_blocks.specs.Edit.{StreamEdit}
use Rattle.msf_blocks.specs.Superblock.{superblock_text}
use Rattle.msf_blocks.proofs.Sizes.{sized}
use Rattle.msf_image.specs.declared.image.Image.{Image}
use Rattle.msf_image.specs.Reads.{IsWhole, block_bytes}
use Rattle.msf_image.specs.Relation.{Reads}
use Rattle.msf_image.proofs.Sparing.{headed_contents, headed_reads, spare_block, torn_reads}
use Rattle.cow_streams.specs.Edits.{edited}
use Rattle.cow_streams.specs.Plan.{IsPlan, IsSparing, TakesNew}
use Rattle.cow_streams.specs.Planned.{Planned, Write, with_writes}
use Rattle.cow_streams.proofs.Supplying.{unreserved_behind}
use Rattle.committer.specs.Change.{Change, IsEither, IsNew, IsOld, IsReady}
use Rattle.committer.specs.Writing.{AreSparing, CanPut, CanTurn, CanWrite, IsPlanned, file_with}

-- ---- writes that spare the old image

module _ (limit : ℕ) (old : Image) (streams : List (Option (List ℕ))) (new : Super) where
  -- a write of a plan, whole or in part
  write_spared : (w : Write) → IsSparing old new w → (file other : List ℕ) → Reads file limit old streams → Torn (block_offset old.head.block w.block) (length w.bytes) file other → Reads other limit old streams
  write_spared w is file other reads torn =
      let at = block_offset old.head.block w.block in
      torn_reads file other limit old streams at old.head.block reads (spare_block file limit old streams w.block reads is.spare) (subst (λ n. Torn at n file other) is.whole torn)

  -- all of them
  all_spared : (writes : List Write) → AllByRecursion (IsSparing old new) writes → (file : List ℕ) → Reads file limit old streams → Reads (with_writes old.head.block file writes) limit old streams
  all_spared [] each file reads = reads
  all_spared (w ∷ writes) each file reads =
      let at = block_offset old.head.block w.block in
      all_spared writes each.1 (splice file at w.bytes) (write_spared w each.0 file (splice file at w.bytes) reads (torn-splice 0 file at w.bytes))

-- ---- the new superblock

pub length-text : (s : Super) → length (superblock_text s) ≡ 56
unfolding superblock_text
length-text s = refl

-- a block behind the superblock stays
headed_block : (size b : ℕ) (file : List ℕ) (s : Super) → IsBlockSize size → 1 ≤ b → block_bytes size (with_head file (superblock_text s)) b ≡ block_bytes size file b
headed_block size b file s h behind =
    let text = superblock_text s in
    ap (take size) (headed_keeps text file (block_offset size b) (omega (arith, length-text s, mul-le 1 512 b size behind (sized size h).least)))

-- the file with a plan's writes takes the new image
module _ (limit : ℕ) (old : Image) (edits : List StreamEdit) (plan : Planned) (streams : List (Option (List ℕ))) (file : List ℕ) (is : IsPlan limit old edits plan) (reads : Reads file limit old streams) where
  abbrev mid : List ℕ
  mid = with_writes old.head.block file plan.writes

  pub mid_reads : Reads mid limit old streams
  mid_reads = all_spared limit old streams plan.image.head plan.writes (recursion_from_All (IsSparing old plan.image.head) plan.writes is.sparing) file reads

  takes : TakesNew old edits plan mid (with_head mid (superblock_text plan.image.head))
  takes =
      let s = plan.image.head in
      let text = superblock_text s in
      let size = old.head.block in
      let h = reads.head.block in
      let stand = is.stand file in
      record {
        head = subst (λ n. take n (with_head mid text) ≡ text) (length-text s) (headed_holds text mid);
        long = let inside = mid_reads.inside in omega (arith, inside, length-with_head text mid);
        stand = λ k d lt.
            headed_block size _ mid s h (is.sparing k d lt).behind ∙ stand k d lt;
        kept = λ k d lt. headed_block size _ mid s h (unreserved_behind size _ (is.unreserved k d lt));
      }

  pub planned_reads : Reads (file_with file plan) limit plan.image (edited edits streams)
  planned_reads =
      let text = superblock_text plan.image.head in
      let taken = is.takes streams mid (with_head mid text) mid_reads takes in
      subst (λ size. Reads (with_head (with_writes size file plan.writes) text) limit plan.image (edited edits streams)) (sym is.block) taken

-- ---- a change

pub sparing_of : (change : Change) (plan : Planned) → IsPlanned change.limit change.image plan → AreSparing change plan.image.head.block plan.writes
sparing_of change plan planned = λ k d lt file other old torn.
    let is = planned.1 in
    let w = get_or plan.writes k d in
    write_spared change.limit change.image change.contents plan.image.head w (is.sparing k d lt) file other old
    (subst (λ size. Torn (block_offset size w.block) (length w.bytes) file other) is.block torn)

pub can_write : (change : Change) (plan : Planned) (seen : List ℕ) (images : List ℕ → Type 0) → CanPut change plan seen images → CanWrite change plan.image.head.block plan.writes images
can_write change plan seen images can = record { sparing = sparing_of change plan can.planned; now = can.now }

pub either_of : (change : Change) (new : Image) (c : List ℕ) → IsReady change new c ⊎ IsNew change new c → IsEither change new c
either_of change new c is = elim is [ inl ready ↦ inl ready.0 | inr turned ↦ inr turned ]

-- a file that has the new superblock, and gets it again
new_headed : (change : Change) (new : Image) (file : List ℕ) → IsWhole change.image → IsNew change new file → IsNew change new (with_head file (superblock_text new.head))
new_headed change new file whole is =
    (headed_reads file change.limit new change.next is.0, headed_contents change.image file (superblock_text new.head) whole (length-text new.head) ∙ is.1)

-- one that is ready for it, or has it
pub head_turns : (change : Change) (new : Image) (file : List ℕ) → IsWhole change.image → IsReady change new file ⊎ IsNew change new file → IsNew change new (with_head file (superblock_text new.head))
head_turns change new file whole is = elim is [ inl ready ↦ ready.1 | inr turned ↦ new_headed change new file whole turned ]

-- and gets it whole or not at all
pub head_spares : (change : Change) (new : Image) (file other : List ℕ) → IsWhole change.image → IsReady change new file ⊎ IsNew change new file → Whole (superblock_text new.head) file other → IsReady change new other ⊎ IsNew change new other
head_spares change new file other whole is written =
    elim written [
      | inl same ↦ subst (λ f. IsReady change new f ⊎ IsNew change new f) (sym same) is
      | inr headed ↦ inr (subst (IsNew change new) (sym headed) (head_turns change new file whole is))
    ]

-- a file in which all writes of a plan stand is ready for its superblock
pub ready_in : (change : Change) (plan : Planned) (seen : List ℕ) (images : List ℕ → Type 0) → CanPut change plan seen images → images seen → IsReady change plan.image (with_writes plan.image.head.block seen plan.writes)
ready_in change plan seen images can now =
    let is = can.planned.1 in
    let old = change.image in
    let text = superblock_text plan.image.head in
    let file = with_writes plan.image.head.block seen plan.writes in
    let reads = can.now seen now in
    let before = subst (λ size. Reads (with_writes size seen plan.writes) change.limit old change.contents) (sym is.block) (mid_reads change.limit old can.planned.0 plan change.contents seen is reads) in
    let after = planned_reads change.limit old can.planned.0 plan change.contents seen is reads in
    let next : edited can.planned.0 change.contents ≡ change.next = after.contents ∙ sym (can.next seen now) in
    (before, (subst (Reads (file_with seen plan) change.limit plan.image) next after, headed_contents old file text can.old_whole (length-text plan.image.head) ∙ sym before.contents))

-- what a superblock that is written leaves
pub head_written : (change : Change) (new : Image) (images images' : List ℕ → Type 0) (text : List ℕ) → text ≡ superblock_text new.head → CanTurn change new images → Follows (Whole text) images images' → (c : List ℕ) → images' c → IsReady change new c ⊎ IsNew change new c
head_written change new images images' text is can crash =
    spared (λ f. IsReady change new f ⊎ IsNew change new f) (Whole text) images images' can.now
    (λ file other was whole. head_spares change new file other can.old_whole was (subst (λ t. Whole t file other) is whole)) crash

-- ---- one write of several

module _ (size : ℕ) (writes : List Write) (k : ℕ) (w : Write) (at : ℕ) (bytes : List ℕ) (there : k < length writes) (is : w ≡ get_or writes k w) (at_is : at ≡ block_offset size w.block) (bytes_are : bytes ≡ w.bytes) where
  -- what it leaves in part
  pub write_leaves : (change : Change) (images images' now : List ℕ → Type 0) → CanWrite change size writes now → ((c : List ℕ) → images c → IsOld change c) → Follows (Torn at (length bytes)) images images' → (c : List ℕ) → images' c → IsOld change c
  write_leaves change images images' now can before crash =
      let Spares = λ (w : Write). (file other : List ℕ) → IsOld change file → Torn (block_offset size w.block) (length w.bytes) file other → IsOld change other in
      let spares : Spares w = subst Spares (sym is) (can.sparing k w there) in
      spared (IsOld change) (Torn at (length bytes)) images images' before
      (λ file other old torn. spares file other old (subst (λ b. Torn (block_offset size w.block) (length b) file other) bytes_are (subst (λ a. Torn a (length bytes) file other) at_is torn))) crash

  -- once it is done the others are left
  pub write_done : (file file' : List ℕ) → file' ≡ splice file at bytes → with_writes size file' (drop (k + 1) writes) ≡ with_writes size file (drop k writes)
  write_done file file' done =
      let more : drop (k + 1) writes ≡ drop (suc k) writes = ap (λ n. drop n writes) (add-one k) in
      ap (λ f. with_writes size f (drop (k + 1) writes)) (done ∙ ap (λ a. splice file a bytes) at_is ∙ ap (splice file (block_offset size w.block)) bytes_are) ∙ ap (with_writes size (splice file (block_offset size w.block) w.bytes)) more
      ∙ ap (λ x. with_writes size file (x ∷ drop (suc k) writes)) is ∙ ap (with_writes size file) (sym (drop-cons writes k w there))

-- ---- the same, where the plan's image and writes are given beside it

module _ (change : Change) (plan : Planned) (seen : List ℕ) (images : List ℕ → Type 0) (can : CanPut change plan seen images) (image : Image) (writes : List Write) (image_is : image ≡ plan.image) (writes_are : writes ≡ plan.writes) where
  pub can_write_as : CanWrite change image.head.block writes images
  can_write_as =
      subst (λ i. CanWrite change i.head.block writes images) (sym image_is)
      (subst (λ ws. CanWrite change plan.image.head.block ws images) (sym writes_are) (record { sparing = sparing_of change plan can.planned; now = can.now }))

  pub can_turn_as : (images' : List ℕ → Type 0) → ((c : List ℕ) → images' c → images seen) → ((c : List ℕ) → images' c → c ≡ with_writes image.head.block seen writes) → CanTurn change image images'
  can_turn_as images' there are = record {
    old_whole = can.old_whole;
    now = λ c now.
        inl (subst (λ i. IsReady change i c) (sym image_is)
        (subst (IsReady change plan.image) (sym (are c now ∙ ap (λ ws. with_writes image.head.block seen ws) writes_are ∙ ap (λ i. with_writes i.head.block seen plan.writes) image_is)) (ready_in change plan seen images can (there c now))));
  }
