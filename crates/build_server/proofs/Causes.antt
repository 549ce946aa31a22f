-- The causes of a server's answers, by what it did.
use Rattle.std.proofs.Common.{◌≡◌, ◌≢◌, ◌⊎◌, ℕ, IsTrue, Bool, true, false, List, Ok, refl, sym, ap, subst, ◌∙◌, arith, inl, inr}
use Rattle.srv_edge.specs.declared.device.Device as device
use Rattle.srv_edge.specs.declared.door.Door as door
use Rattle.srv_edge.specs.declared.sink.Sink as sink
use Rattle.srv_edge.specs.Count.{HasCause, Rose}
use Rattle.table_model.specs.Bounds.{standard}
use Rattle.type_store.specs.Commits.{cut_told, held_in}
use Rattle.client_session.specs.Commits.{loans_of}
use Rattle.hub.specs.declared.end.Ended.{Ended}
use Rattle.build_server.specs.declared.server.Closed.{Closed}
use Rattle.build_server.specs.declared.server.Closed.TheVariants.{Early, Served}
use Rattle.program_status.specs.declared.status.Status.{Status}
use Rattle.program_status.specs.declared.status.Status.TheVariants as status
use Rattle.program_status.specs.Prints.{Prints}
use Rattle.program_status.specs.Statuses.{IsUnserved, MayNotServe, status_of_file}
use Rattle.build_server.specs.Server.{CompletesServer, RunsServer, ServesLinks, StaysShut, counted_in, loans_in, status_behind, summary_of}

-- the status of a printed text
is_printed : {K : Type 0} (k : sink.Ghosts K) (text : List ℕ) (to to' : K) (answer : Status) → Prints k text status.Ok to to' answer → (answer ≡ status.Ok) ⊎ (answer ≡ status.WriteFault)
is_printed k text to to' answer (inl whole) = inl whole.0
is_printed k text to to' answer (inr part) = inr part.0

-- the status behind a printed text, where the door did not fail
behind : (failed : Bool) (printing answer other : Status) → answer ≡ status_behind failed printing → answer ≡ other → other ≢ status.DoorFault → (failed ≡ false) × (printing ≡ other)
behind true printing answer other is same differs = absurd (differs (sym same ∙ is))
behind false printing answer other is same differs = (refl, sym is ∙ same)

-- the door failed where the status says so
door_behind : {K : Type 0} (k : sink.Ghosts K) (text : List ℕ) (to to' : K) (failed : Bool) (printing answer : Status) → Prints k text status.Ok to to' printing → answer ≡ status_behind failed printing → answer ≡ status.DoorFault → failed ≡ true
door_behind k text to to' true printing answer prints is same = refl
door_behind k text to to' false printing answer prints is same =
    elim (is_printed k text to to' printing prints) [
      | inl ok ↦ let e : status.Ok ≡ status.DoorFault = sym ok ∙ sym is ∙ same in cc
      | inr fault ↦ let e : status.WriteFault ≡ status.DoorFault = sym fault ∙ sym is ∙ same in cc
    ]

not_served : (answer other : Status) → MayNotServe answer → answer ≡ other → MayNotServe other
not_served answer other may is = subst MayNotServe is may

module _ {D O E K : Type 0} (d : device.Ghosts D) (o : door.Ghosts O E) (k : sink.Ghosts K) (sessions workers : ℕ) (file : D) (door door' : O) (to to' : K) (answer : Status) where
  pub writes_of : (closed : Closed D) → RunsServer d o k sessions workers file door door' to to' answer closed → HasCause (answer ≡ status.WriteFault) (k.faults to) (k.faults to')
  writes_of (Early file') shut = record {
    never_falls = omega (arith, ap k.faults shut.unsent);
    rose = λ is. absurd (not_served answer status.WriteFault shut.answered is);
  }
  writes_of (Served left) s = record {
    never_falls = s.serves.writes.never_falls;
    rose = λ is. s.serves.writes.rose (behind s.serves.failed s.serves.printing answer status.WriteFault s.serves.answered is (λ e. absurd cc)).1;
  }

  pub fails_of : (closed : Closed D) → RunsServer d o k sessions workers file door door' to to' answer closed → HasCause (answer ≡ status.DoorFault) (o.faults door) (o.faults door')
  fails_of (Early file') shut = record {
    never_falls = omega (arith, ap o.faults shut.same_door);
    rose = λ is. absurd (not_served answer status.DoorFault shut.answered is);
  }
  fails_of (Served left) s = record {
    never_falls = s.serves.accepts.cause.never_falls;
    rose = λ is. s.serves.accepts.cause.rose (door_behind k (summary_of s.serves.accepted left) to to' s.serves.failed s.serves.printing answer s.serves.printed s.serves.answered is);
  }

  served_is : (left : Ended D) (s : ServesLinks d o k sessions workers file door door' to to' answer left) → (answer ≡ status.DoorFault) ⊎ ((answer ≡ status.Ok) ⊎ (answer ≡ status.WriteFault))
  served_is left s = go s.serves.failed s.serves.answered (is_printed k (summary_of s.serves.accepted left) to to' s.serves.printing s.serves.printed) where
    go : (failed : Bool) → answer ≡ status_behind failed s.serves.printing → (s.serves.printing ≡ status.Ok) ⊎ (s.serves.printing ≡ status.WriteFault) → (answer ≡ status.DoorFault) ⊎ ((answer ≡ status.Ok) ⊎ (answer ≡ status.WriteFault))
    go true is printed = inl is
    go false is (inl ok) = inr (inl (is ∙ ok))
    go false is (inr fault) = inr (inr (is ∙ fault))

  pub disk_of : (closed : Closed D) → RunsServer d o k sessions workers file door door' to to' answer closed → answer ≡ status.DiskFault → Rose (d.fault_count file) (counted_in d.fault_count closed)
  disk_of (Early file') shut is = shut.disk.rose is
  disk_of (Served left) s is =
      elim (served_is left s) [
        | inl e ↦ let x : status.DiskFault ≡ status.DoorFault = sym is ∙ e in cc
        | inr (inl e) ↦ let x : status.DiskFault ≡ status.Ok = sym is ∙ e in cc
        | inr (inr e) ↦ let x : status.DiskFault ≡ status.WriteFault = sym is ∙ e in cc
      ]

  pub usage_of : (closed : Closed D) → RunsServer d o k sessions workers file door door' to to' answer closed → answer ≢ status.Usage
  usage_of (Early file') shut is = not_served answer status.Usage shut.answered is
  usage_of (Served left) s is =
      elim (served_is left s) [
        | inl e ↦ let x : status.Usage ≡ status.DoorFault = sym is ∙ e in cc
        | inr (inl e) ↦ let x : status.Usage ≡ status.Ok = sym is ∙ e in cc
        | inr (inr e) ↦ let x : status.Usage ≡ status.WriteFault = sym is ∙ e in cc
      ]

  pub loans_kept : (closed : Closed D) → RunsServer d o k sessions workers file door door' to to' answer closed → loans_in d.loans closed ≡ d.loans file
  loans_kept (Early file') shut = shut.only_reads.loans
  loans_kept (Served left) s = ap (loans_of d.loans) s.serves.leaves.there ∙ s.serves.leaves.loans

  idle_completes : (file' : D) (shut : StaysShut d o k sessions workers file door door' to to' answer file') → IsTrue d.tells → ¬ Rose (d.fault_count file) (d.fault_count file') → (other : Status) → answer ≡ other → MayNotServe other
      → IsUnserved (cut_told standard (held_in standard (d.seen file))) other → (other ≡ status.OutOfMemory) ⊎ (other ≡ status_of_file (cut_told standard (held_in standard (d.seen file))))
  idle_completes file' shut tells none status.OutOfMemory is may told = inl refl
  idle_completes file' shut tells none status.DiskFault is may told = absurd (none (shut.disk.rose is))
  idle_completes file' shut tells none (status.Damage kind place) is may told = inr (sym (ap status_of_file told))
  idle_completes file' shut tells none other is may told = absurd may

  pub completes_of : (closed : Closed D) → RunsServer d o k sessions workers file door door' to to' answer closed → CompletesServer d o k file door door' to to' answer closed
  completes_of (Early file') shut tells disk_fault door_fault write_fault = idle_completes file' shut tells disk_fault answer refl shut.answered (shut.told tells)
  completes_of (Served left) s tells disk_fault door_fault write_fault =
      elim (served_is left s) [
        | inl e ↦ absurd (door_fault ((fails_of (Served left) s).rose e))
        | inr (inl e) ↦ inr (e ∙ sym (ap status_of_file (s.opened.holds tells)))
        | inr (inr e) ↦ absurd (write_fault ((writes_of (Served left) s).rose e))
      ]
