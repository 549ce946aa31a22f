use Rattle.std.proofs.Common.{◌≡◌, ◌-◌, length}
use Rattle.names_table.specs.Buckets.{Leads}
use Rattle.names_table.proofs.FreeBuckets.{SoFar}
use Rattle.names_table.proofs.buckets.put_names.Given as goal

abbrev pub invariant-loop-name : goal.invariant-loop-name
invariant-loop-name l = record { so_far : SoFar l.version l.names l.initial.buckets l.i l.offset l.buckets; leads : Leads l.buckets l.next; count : length l.buckets ≡ length l.initial.buckets }

abbrev pub decreases-loop-name : goal.decreases-loop-name
decreases-loop-name l = length l.names - l.i
