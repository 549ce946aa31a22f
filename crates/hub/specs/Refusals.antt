-- Why a commit is refused that was not prepared.
use Rattle.committer.specs.declared.fault.CommitFault.{CommitFault}
use Rattle.committer.specs.declared.fault.CommitFault.TheVariants as fault
use Rattle.srv_edge.specs.declared.failed.Refusal.{Refusal}
use Rattle.srv_edge.specs.declared.failed.Refusal.TheVariants as refusal

-- A preparation meets no fault of the device.
abbrev pub refusal_of : CommitFault → Refusal
refusal_of (fault.Full which needed) = refusal.Full which needed
refusal_of fault.DiskFault = refusal.OutOfMemory
refusal_of fault.OutOfMemory = refusal.OutOfMemory
