-- The phases of a commit onto the file.
use Rattle.std.specs.Prelude.{ℕ, Bool, true, false, Option, Some, None}
use Rattle.table_model.specs.Cut.{Cut}
pub use Rattle.table_model.specs.File.{File, settled, doubt, Which, older, pending, cut_left, MayLeave, sure_cut, resolution}

-- Where a commit stands: the pending superblock is written again; that is synced; blocks are written; the
-- superblock is written; that is synced; and the two ends.
pub data Phase : Type 0 where
  resolving : Phase
  resolving_sync : Phase
  writing : Phase
  switching : Phase
  switching_sync : Phase
  done : Phase
  failed : Phase

pub data DeviceCall : Type 0 where
  write : DeviceCall
  write_super : DeviceCall
  sync : DeviceCall

-- a commit under way: whose it is, its cut, and where it stands
pub record Commit : Type 0 where
  pub caller : ℕ
  pub cut : Cut
  pub phase : Phase

-- the file, and where a commit onto it stands
pub record Progress : Type 0 where
  pub file : File
  pub phase : Phase

abbrev pub at_phase : File → Phase → Option Progress
at_phase file phase = Some (record { file = file; phase = phase })

-- What a device call makes of the file, and of the phase of a commit of this cut, where the phase has that call.
-- The flag tells whether the call was done or failed. A superblock write that failed may still have come to the disk.
abbrev pub progress : Cut → File → Phase → DeviceCall → Bool → Option Progress
progress new file resolving write_super true = at_phase file resolving_sync
progress new file resolving write_super false = at_phase file failed
progress new file resolving_sync sync true = at_phase (resolution file) writing
progress new file resolving_sync sync false = at_phase file failed
progress new file writing write true = at_phase file writing
progress new file writing write false = at_phase file failed
progress new file writing sync true = at_phase file switching
progress new file writing sync false = at_phase file failed
progress new file switching write_super true = at_phase (doubt (sure_cut file) new) switching_sync
progress new file switching write_super false = at_phase (doubt (sure_cut file) new) failed
progress new file switching_sync sync true = at_phase (settled new) done
progress new file switching_sync sync false = at_phase file failed
progress new file _ _ _ = None

-- where a commit onto a file begins
abbrev pub first_phase : File → Phase
first_phase (settled x) = writing
first_phase (doubt x p) = resolving
