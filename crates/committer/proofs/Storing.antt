-- What a store keeps, from one device to the next.
use Rattle.std.proofs.Common.{◌≡◌, ◌≤◌, ◌⊎◌, ℕ, List, Option, Some, None, refl, sym, subst, ◌∙◌, inl, inr}
use Rattle.srv_edge.specs.Disk.{Among, Elapses}
use Rattle.srv_edge.specs.Reading.{OnlyReads}
use Rattle.srv_edge.specs.declared.device.Device.{Ghosts}
use Rattle.srv_edge.proofs.Moments.{goes_on, started}
use Rattle.msf_image.specs.declared.image.Image.{Image}
use Rattle.msf_image.specs.Reads.{IsWhole}
use Rattle.msf_image.specs.Relation.{Reads, contents_in}
use Rattle.committer.specs.Change.{IsNew, IsReady}
use Rattle.msf_image.proofs.Sparing.{headed_reads}
use Rattle.committer.specs.Stored.{AreAlike, File, IsIn, IsSettledFile, Shows, change_in, doubt, file_of, newest, settled, settled_file}

-- a call that changes neither what a read gives nor the images only reads
pub read_by : {D : Type 0} (device : Ghosts D) (old new : D) → ((c : List ℕ) → device.left_since old (device.moment old) c → device.may_leave old c) → device.seen new ≡ device.seen old → Among (device.may_leave old) (device.may_leave new)
    → Elapses (device.moment old) (device.moment new) (device.left_since old) (device.left_since new) (device.may_leave new) → device.loans new ≡ device.loans old → device.fault_count old ≤ device.fault_count new → OnlyReads device old new
read_by device old new only seen crash time loans falls =
    record {
      seen = seen;
      any_moment = goes_on device.moment device.left_since old old new (device.may_leave old) (device.may_leave new)
          (started device.moment device.left_since old (device.may_leave old) (device.may_leave old) only (λ c image. image)) time crash;
      loans = loans;
      never_falls = falls;
    }

-- a file whose images are among those that it had is in the same state
pub still_in : (limit : ℕ) (file : File) (seen seen' : List ℕ) (images images' : List ℕ → Type 0) → seen' ≡ seen → Among images images' → IsIn limit file seen images → IsIn limit file seen' images'
still_in limit (settled image) seen seen' images images' same among is =
    record {
      whole = is.whole;
      limited = is.limited;
      reads = λ c now. subst (λ s. Reads c limit image (contents_in s image)) (sym same) (is.reads c (among c now));
    }
still_in limit (doubt base pending) seen seen' images images' same among is =
    record {
      whole = is.whole;
      limited = is.limited;
      base_whole = is.base_whole;
      alike = is.alike;
      reads = λ c now. subst (λ s. IsReady (change_in limit base pending s) pending c ⊎ IsNew (change_in limit base pending s) pending c) (sym same) (is.reads c (among c now));
    }

-- what a crash leaves of it
pub shown : (limit : ℕ) (file : File) (seen : List ℕ) (images : List ℕ → Type 0) → IsIn limit file seen images → (c : List ℕ) → images c → Shows limit file seen c
shown limit (settled image) seen images is c now = is.reads c now
shown limit (doubt base pending) seen images is c now = elim (is.reads c now) [ inl ready ↦ inl ready.0 | inr new ↦ inr new.0 ]

-- what it reads as once it is settled
pub settles : (limit : ℕ) (file : File) (seen : List ℕ) (images : List ℕ → Type 0) → IsIn limit file seen images → images seen → Reads (settled_file file seen) limit (newest file) (contents_in seen (newest file))
settles limit (settled image) seen images is now = is.reads seen now
settles limit (doubt base pending) seen images is now =
    elim (is.reads seen now) [ inl ready ↦ ready.1.0 | inr new ↦ headed_reads seen limit pending (contents_in seen pending) new.0 ]

pub newest_whole : (limit : ℕ) (file : File) (seen : List ℕ) (images : List ℕ → Type 0) → IsIn limit file seen images → IsWhole (newest file)
newest_whole limit (settled image) seen images is = is.whole
newest_whole limit (doubt base pending) seen images is = is.whole

pub newest_limited : (limit : ℕ) (file : File) (seen : List ℕ) (images : List ℕ → Type 0) → IsIn limit file seen images → (newest file).head.blocks ≤ limit
newest_limited limit (settled image) seen images is = is.limited
newest_limited limit (doubt base pending) seen images is = is.limited

pub alike : (limit : ℕ) (file : File) (seen : List ℕ) (images : List ℕ → Type 0) → IsIn limit file seen images → AreAlike file
alike limit (settled image) seen images is = record { block = refl; unknown = refl }
alike limit (doubt base pending) seen images is = is.alike

-- ---- the newest image by itself

pub newest_is : (before : Option Image) (image : Image) → newest (file_of before image) ≡ image
newest_is None image = refl
newest_is (Some base) image = refl

pub settled_reads : (limit : ℕ) (before : Option Image) (image : Image) (seen : List ℕ) (images : List ℕ → Type 0) → IsSettledFile (file_of before image) → IsIn limit (file_of before image) seen images → images seen → Reads seen limit image (contents_in seen image)
settled_reads limit None image seen images is holds now = holds.reads seen now
settled_reads limit (Some base) image seen images is holds now = absurd cc

-- ---- a file that was opened

pub opened : (limit : ℕ) (image : Image) (first mid last file : List ℕ) → mid ≡ first → last ≡ mid → file ≡ first → Reads mid limit image (contents_in mid image) → Reads file limit image (contents_in last image)
opened limit image first mid last file one two is reads =
    subst (λ f. Reads f limit image (contents_in last image)) (one ∙ sym is) (subst (λ f. Reads mid limit image (contents_in f image)) (sym two) reads)
