-- What is seen of the standard streams.
use Rattle.std.specs.Prelude.{ℕ}
use Rattle.srv_edge.specs.declared.standard.StdIn.{StdIn}
use Rattle.srv_edge.specs.declared.standard.StdOut.{StdOut}

-- how often a reader has failed
abbrev pub faults_in : {R : Type 0} → StdIn R → ℕ
faults_in s = s.faults.count

-- how often a writer has failed
abbrev pub faults_out : {W : Type 0} → StdOut W → ℕ
faults_out s = s.faults.count
