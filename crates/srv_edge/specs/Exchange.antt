-- What runs of calls on a source and on a sink leave.
use Rattle.std.specs.Prelude.{◌≡◌, ℕ, List}
use Rattle.srv_edge.specs.Count.{HasCause}
use Rattle.srv_edge.specs.Stream.{Came, Went}
use Rattle.srv_edge.specs.declared.source.Source as source
use Rattle.srv_edge.specs.declared.sink.Sink as sink

-- these bytes came from a source, if it tells them: they are given now, and no longer left
abbrev pub CameFrom : {S : Type 0} → source.Ghosts S → List ℕ → S → S → Type 0
CameFrom s bytes old new = Came s.tells bytes (s.given old) (s.left old) (s.given new) (s.left new)

-- these bytes went to a sink, if it tells them
abbrev pub WentTo : {K : Type 0} → sink.Ghosts K → List ℕ → K → K → Type 0
WentTo k bytes old new = Went k.tells bytes (k.taken old) (k.taken new)

-- What is left of a source beside its bytes: what it tells beside, its references, and its count, by which a fault has
-- its cause.
pub record CallsSource {S : Type 0} (s : source.Ghosts S) (is_fault : Type 0) (old new : S) : Type 0 where
  pub beside : s.beside new ≡ s.beside old
  pub loans : s.loans new ≡ s.loans old
  pub cause : HasCause is_fault (s.faults old) (s.faults new)

-- the same of a sink
pub record CallsSink {K : Type 0} (k : sink.Ghosts K) (is_fault : Type 0) (old new : K) : Type 0 where
  pub beside : k.beside new ≡ k.beside old
  pub loans : k.loans new ≡ k.loans old
  pub cause : HasCause is_fault (k.faults old) (k.faults new)
