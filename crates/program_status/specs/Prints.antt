-- What goes to the sink where a text is printed.
use Rattle.std.specs.Prelude.{◌≡◌, ◌⊎◌, ℕ, List}
use Rattle.srv_edge.specs.declared.sink.Sink as sink
use Rattle.srv_edge.specs.Exchange.{WentTo}
use Rattle.srv_edge.specs.Stream.{WentInPart}
use Rattle.program_status.specs.declared.status.Status.{Status}
use Rattle.program_status.specs.declared.status.Status.TheVariants as status

-- A text went to the sink whole, and the status is this; or in part, with a write fault.
abbrev pub Prints : {K : Type 0} → sink.Ghosts K → List ℕ → Status → K → K → Status → Type 0
Prints k text status_is to to' answer =
    ((answer ≡ status_is) × WentTo k text to to') ⊎ ((answer ≡ status.WriteFault) × WentInPart k.tells text (k.taken to) (k.taken to'))
