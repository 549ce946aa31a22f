-- What the commands `check` and `dump` do.
use Rattle.std.specs.Prelude.{◌≡◌, ◌⊎◌, ℕ, IsTrue, IfSome, List, [], Result, Ok, Err}
use Rattle.srv_edge.specs.declared.device.Device as device
use Rattle.srv_edge.specs.declared.limit.TheConstants.{MOST_BLOCKS}
use Rattle.srv_edge.specs.declared.sink.Sink as sink
use Rattle.srv_edge.specs.Count.{Rose}
use Rattle.msf_image.specs.declared.fault.OpenFault.{OpenFault}
use Rattle.msf_image.specs.declared.fault.OpenFault.TheVariants as fault
use Rattle.msf_image.specs.declared.image.Image.{Image}
use Rattle.msf_image.specs.declared.fault.Damage.{Damage}
use Rattle.msf_image.specs.Faults.{damage_in}
use Rattle.msf_image.specs.Reads.{read_file}
use Rattle.table_model.specs.Bounds.{standard}
use Rattle.table_model.specs.Cut.{Cut}
use Rattle.type_store.specs.Commits.{Holds, cut_told, held_in}
use Rattle.pdb_dump.specs.Container.{damage_text}
use Rattle.pdb_dump.specs.Dump as texts
use Rattle.file_commands.specs.declared.show.Detail.{Detail}
use Rattle.file_commands.specs.declared.show.Detail.TheVariants as detail
use Rattle.program_status.specs.declared.status.Status.{Status}
use Rattle.program_status.specs.declared.status.Status.TheVariants as status
use Rattle.program_status.specs.Prints.{Prints}
use Rattle.program_status.specs.Statuses.{status_of_fault, status_of_file}

-- a file that was opened: its image, and the commit that it holds
pub record Opened : Type 0 where
  pub image : Image
  pub cut : Cut

-- the text that is printed of an opened file
abbrev pub text_for : Detail → Image → Cut → List ℕ
text_for detail.Lines image cut = texts.check_text image cut
text_for detail.All image cut = texts.dump_text image cut

-- what is printed of a file that does not open
abbrev pub text_of_fault : OpenFault → List ℕ
text_of_fault (fault.Damage kind place) = damage_text kind place
text_of_fault fault.DiskFault = []
text_of_fault fault.OutOfMemory = []

abbrev pub text_of_read : Detail → Result Opened OpenFault → List ℕ
text_of_read what (Ok opened) = text_for what opened.image opened.cut
text_of_read what (Err why) = text_of_fault why

abbrev pub status_of_read : Result Opened OpenFault → Status
status_of_read (Ok opened) = status.Ok
status_of_read (Err why) = status_of_fault why

-- What was read is what the file tells: its image and the commit that it holds, or its first damage.
abbrev pub TellsRead : List ℕ → Result Opened OpenFault → Type 0
TellsRead file (Ok opened) = (read_file file MOST_BLOCKS ≡ Ok opened.image) × Holds standard file opened.cut
TellsRead file (Err why) = IfSome (damage_in why) (λ damage. held_in standard file ≡ Err damage)

-- A text was printed, or nothing for want of memory.
abbrev pub PrintsOrWants : {K : Type 0} → sink.Ghosts K → List ℕ → Status → K → K → Status → Type 0
PrintsOrWants k text status_is to to' answer = ((answer ≡ status.OutOfMemory) × (to' ≡ to)) ⊎ Prints k text status_is to to' answer

-- A file was read, and the text of what was read was printed.
pub record PrintsFile {D K : Type 0} (d : device.Ghosts D) (k : sink.Ghosts K) (what : Detail) (file : D) (to to' : K) (answer : Status) : Type 0 where
  pub read : Result Opened OpenFault
  pub told : IsTrue d.tells → TellsRead (d.seen file) read
  pub printed : Prints k (text_of_read what read) (status_of_read read) to to' answer

-- Where neither the device nor the sink failed, the file alone says the status, but for want of memory.
abbrev pub CompletesPrinting : {D K : Type 0} → device.Ghosts D → sink.Ghosts K → D → D → K → K → Status → Type 0
CompletesPrinting d k file file' to to' answer =
    IsTrue d.tells → ¬ Rose (d.fault_count file) (d.fault_count file') → ¬ Rose (k.faults to) (k.faults to')
    → (answer ≡ status.OutOfMemory) ⊎ (answer ≡ status_of_file (cut_told standard (held_in standard (d.seen file))))
