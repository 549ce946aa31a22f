-- What `check` and `dump` print and answer.
use Rattle.std.proofs.Common.{◌≡◌, IsTrue, Ok, Err, refl, sym, subst, inl, inr}
use Rattle.std.proofs.lemmas.List.{append-nil}
use Rattle.srv_edge.specs.declared.device.Device as device
use Rattle.srv_edge.specs.declared.limit.TheConstants.{MOST_BLOCKS}
use Rattle.srv_edge.specs.declared.sink.Sink as sink
use Rattle.msf_image.specs.declared.fault.OpenFault.{OpenFault}
use Rattle.msf_image.specs.declared.fault.OpenFault.TheVariants as fault
use Rattle.msf_image.specs.declared.image.Image.{Image}
use Rattle.msf_image.specs.Reads.{read_file}
use Rattle.table_model.specs.Bounds.{standard}
use Rattle.table_model.specs.Cut.{Cut}
use Rattle.type_store.specs.Commits.{Holds}
use Rattle.file_commands.specs.declared.show.Detail.{Detail}
use Rattle.program_status.specs.declared.status.Status.{Status}
use Rattle.program_status.specs.declared.status.Status.TheVariants as status
use Rattle.program_status.specs.Statuses.{status_of_fault}
use Rattle.file_commands.specs.Printed.{PrintsFile, PrintsOrWants, TellsRead, text_for, text_of_fault}

-- nothing is printed where memory is wanted
pub nothing_printed : {D K : Type 0} (d : device.Ghosts D) (k : sink.Ghosts K) (what : Detail) (file : D) (to : K) → PrintsFile d k what file to to status.OutOfMemory
nothing_printed d k what file to = record { read = Err fault.OutOfMemory; told = λ tells. tt; printed = inl (refl, λ tells. sym (append-nil (k.taken to))) }

-- so also where the sink is said to be as it was
still_printed : {D K : Type 0} (d : device.Ghosts D) (k : sink.Ghosts K) (what : Detail) (file : D) (to to' : K) (answer : Status) → answer ≡ status.OutOfMemory → to' ≡ to
    → PrintsFile d k what file to to' answer
still_printed d k what file to to' answer wants same =
    subst (λ a. PrintsFile d k what file to to' a) (sym wants) (subst (λ t. PrintsFile d k what file to t status.OutOfMemory) (sym same) (nothing_printed d k what file to))

-- what is printed of a file that was opened
pub file_printed : {D K : Type 0} (d : device.Ghosts D) (k : sink.Ghosts K) (what : Detail) (file : D) (to to' : K) (answer : Status) (image : Image) (cut : Cut)
    → (IsTrue d.tells → (read_file (d.seen file) MOST_BLOCKS ≡ Ok image) × Holds standard (d.seen file) cut)
    → PrintsOrWants k (text_for what image cut) status.Ok to to' answer → PrintsFile d k what file to to' answer
file_printed d k what file to to' answer image cut told (inl wants) = still_printed d k what file to to' answer wants.0 wants.1
file_printed d k what file to to' answer image cut told (inr prints) = record { read = Ok (record { image = image; cut = cut }); told = told; printed = prints }

-- what is printed of one that was not
pub fault_printed : {D K : Type 0} (d : device.Ghosts D) (k : sink.Ghosts K) (what : Detail) (file : D) (to to' : K) (answer : Status) (why : OpenFault)
    → (IsTrue d.tells → TellsRead (d.seen file) (Err why)) → PrintsOrWants k (text_of_fault why) (status_of_fault why) to to' answer → PrintsFile d k what file to to' answer
fault_printed d k what file to to' answer why told (inl wants) = still_printed d k what file to to' answer wants.0 wants.1
fault_printed d k what file to to' answer why told (inr prints) = record { read = Err why; told = told; printed = prints }
