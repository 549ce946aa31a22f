-- What is seen of a link in memory.
use Rattle.std.specs.Prelude.{true}
use Rattle.srv_edge.specs.declared.memory.MemLink.{MemLink}
use Rattle.srv_edge.specs.Finished.{IsFresh, Seen}
use Rattle.srv_edge.specs.Memory.{given_by, left_in, taken_by}

abbrev pub seen_link : MemLink → Seen
seen_link l = record {
  given_told = true;
  given = given_by l.source;
  left = left_in l.source;
  source_faults = l.source.faults.count;
  taken_told = true;
  taken = taken_by l.sink;
  sink_faults = l.sink.faults.count;
}

-- a link as it was made
abbrev pub IsFreshLink : MemLink → Type 0
IsFreshLink l = IsFresh (seen_link l)
