-- Runs of calls that only read, one after another.
use Rattle.std.proofs.Common.{◌≤◌, ℕ, List, ◌∙◌, arith}
use Rattle.srv_edge.specs.Reading.{OnlyReads}
use Rattle.srv_edge.specs.declared.device.Device.{Ghosts}
use Rattle.srv_edge.proofs.Moments.{holds_now, joined, weaker}

-- What a crash leaves in either run is what it might have left at the start of the first.
pub only_reads_on : {D : Type 0} (device : Ghosts D) → ((d : D) (t : ℕ) (c : List ℕ) → t ≤ device.moment d → device.may_leave d c → device.left_since d t c) → (old mid new : D) → OnlyReads device old mid → OnlyReads device mid new → OnlyReads device old new
only_reads_on {D} device counts old mid new one two = record {
  seen = two.seen ∙ one.seen;
  any_moment = joined device.moment device.left_since old mid new (device.may_leave old) one.any_moment
      (weaker device.moment device.left_since mid new (device.may_leave mid) (device.may_leave old) two.any_moment
      (λ c image. holds_now device.moment device.left_since old mid (device.may_leave old) (device.may_leave mid) one.any_moment (counts mid) c image));
  loans = two.loans ∙ one.loans;
  never_falls = omega (arith, one.never_falls, two.never_falls);
}
