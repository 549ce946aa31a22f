-- Runs of device calls.
use Rattle.std.proofs.Common.{ℕ, List}
use Rattle.srv_edge.specs.Disk.{Elapses, LeavesOnly}
use Rattle.srv_edge.specs.declared.device.Device.{Ghosts}
use Rattle.srv_edge.proofs.Moments.{goes_on, started}

module _ {D : Type 0} (device : Ghosts D) where
  -- a run of one call
  pub one_call : (old new : D) (P : List ℕ → Type 0) → ((c : List ℕ) → device.left_since old (device.moment old) c → device.may_leave old c)
      → Elapses (device.moment old) (device.moment new) (device.left_since old) (device.left_since new) (device.may_leave new)
      → ((c : List ℕ) → device.may_leave old c → P c) → ((c : List ℕ) → device.may_leave new c → P c) → LeavesOnly device.moment device.left_since old new P
  one_call old new P only time before after =
      goes_on device.moment device.left_since old old new P (device.may_leave new) (started device.moment device.left_since old P (device.may_leave old) only before) time after

  -- one call more
  pub next_call : (old mid new : D) (P : List ℕ → Type 0) → LeavesOnly device.moment device.left_since old mid P
      → Elapses (device.moment mid) (device.moment new) (device.left_since mid) (device.left_since new) (device.may_leave new)
      → ((c : List ℕ) → device.may_leave new c → P c) → LeavesOnly device.moment device.left_since old new P
  next_call old mid new P run time after = goes_on device.moment device.left_since old mid new P (device.may_leave new) run time after
