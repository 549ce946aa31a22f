use Rattle.std.proofs.Common.{◌≤◌, ◌-◌, length, take}
use Rattle.srv_edge.specs.Exchange.{CallsSink}
use Rattle.srv_edge.specs.Stream.{Went}
use Rattle.srv_edge.proofs.give.give_all.Given as goal

abbrev pub invariant-loop-sent : goal.invariant-loop-sent
invariant-loop-sent g l =
    let sink = g.K.Sink in
    record {
      within : l.sent ≤ length l.bytes;
      went : Went sink.tells (take l.sent l.bytes) (sink.taken l.initial.sink) (sink.taken l.sink);
      calls : CallsSink sink ⊥ l.initial.sink l.sink;
    }

abbrev pub decreases-loop-sent : goal.decreases-loop-sent
decreases-loop-sent g l = length l.bytes - l.sent
