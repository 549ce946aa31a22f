use Rattle.std.proofs.Common.{◌≡◌, ◌-◌, ℕ, List, length}
use Rattle.request_frames.proofs.Listing.{Cut}
use Rattle.request_frames.proofs.list.read_list.Given as goal

abbrev pub invariant-loop-record : goal.invariant-loop-record
invariant-loop-record l = (done : List (List ℕ)) × Cut l.body l.at done × (l.count ≡ length done)

abbrev pub decreases-loop-record : goal.decreases-loop-record
decreases-loop-record l = length l.body - l.at
