-- Runs of calls on a source or a sink, one after another.
use Rattle.std.proofs.Common.{◌≤◌, ℕ, ◌∙◌, arith}
use Rattle.srv_edge.specs.Count.{HasCause, Rose}
use Rattle.srv_edge.specs.Exchange.{CallsSink, CallsSource}
use Rattle.srv_edge.specs.declared.sink.Sink as sink
use Rattle.srv_edge.specs.declared.source.Source as source

-- a count rose where it rose later
rose_later : (before mid now : ℕ) → before ≤ mid → Rose mid now → Rose before now
rose_later before mid now le rose = omega (arith, le, rose)

-- a run without a fault, and then one with its cause
pub cause_goes_on : {P : Type 0} (before mid now : ℕ) → HasCause ⊥ before mid → HasCause P mid now → HasCause P before now
cause_goes_on before mid now one two =
    record { never_falls = omega (arith, one.never_falls, two.never_falls); rose = λ is. rose_later before mid now one.never_falls (two.rose is) }

pub source_goes_on : {S P : Type 0} {s : source.Ghosts S} {old mid new : S} → CallsSource s ⊥ old mid → CallsSource s P mid new → CallsSource s P old new
source_goes_on {S} {P} {s} {old} {mid} {new} one two =
    record { beside = two.beside ∙ one.beside; loans = two.loans ∙ one.loans; cause = cause_goes_on (s.faults old) (s.faults mid) (s.faults new) one.cause two.cause }

pub sink_goes_on : {K P : Type 0} {k : sink.Ghosts K} {old mid new : K} → CallsSink k ⊥ old mid → CallsSink k P mid new → CallsSink k P old new
sink_goes_on {K} {P} {k} {old} {mid} {new} one two =
    record { beside = two.beside ∙ one.beside; loans = two.loans ∙ one.loans; cause = cause_goes_on (k.faults old) (k.faults mid) (k.faults new) one.cause two.cause }
