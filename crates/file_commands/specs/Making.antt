-- What the command `init` does.
use Rattle.std.specs.Prelude.{◌≡◌, ◌≢◌, ◌⊎◌, ℕ, IsTrue, List, [], length, ◌==◌, if◌then◌else◌}
use Rattle.srv_edge.specs.declared.device.Device as device
use Rattle.srv_edge.specs.declared.sink.Sink as sink
use Rattle.srv_edge.specs.Count.{Rose}
use Rattle.srv_edge.specs.Disk.{Only}
use Rattle.srv_edge.specs.Reading.{OnlyReads}
use Rattle.msf_image.specs.Packed.{packed_file, packed_image}
use Rattle.table_model.specs.Bounds.{bounded_table, standard}
use Rattle.table_model.specs.Cut.{Cut}
use Rattle.type_store.specs.Commits.{Holds}
use Rattle.type_store.specs.Files.{cut_of}
use Rattle.type_store.specs.NewFile.{new_contents}
use Rattle.pdb_dump.specs.Dump as texts
use Rattle.program_status.specs.declared.status.Status.{Status}
use Rattle.program_status.specs.declared.status.Status.TheVariants as status
use Rattle.file_commands.specs.Printed.{PrintsOrWants}

-- the commit that a new file holds: it has the number 1, and no records and names
abbrev pub first_cut : Cut
first_cut = cut_of 1 (record {
  types = bounded_table standard [];
  items = bounded_table standard [];
  names = record { max_bytes = standard.name_bytes; version = 1; names = [] };
})

-- the two lines of a new file
abbrev pub new_text : ℕ → List ℕ → ℕ → List ℕ
new_text block guid signature = texts.check_text (packed_image block 0 (new_contents guid signature)) first_cut

-- A device has a new file: its only image is the packed file of the eight streams, and that holds the first commit.
pub record IsNewFile {D : Type 0} (d : device.Ghosts D) (block : ℕ) (guid : List ℕ) (signature : ℕ) (file : D) : Type 0 where
  pub only : Only (packed_file block 0 (new_contents guid signature)) (d.may_leave file)
  pub holds : (image : List ℕ) → d.may_leave file image → Holds standard image first_cut

module _ {D K : Type 0} (d : device.Ghosts D) (k : sink.Ghosts K) (block : ℕ) (guid : List ℕ) (signature : ℕ) (file file' : D) (to to' : K) (answer : Status) where
  -- A file was made, and its text went, or as much as the sink took; or memory was wanted for the text.
  pub record Makes : Type 0 where
    pub is_new : IsNewFile d block guid signature file'
    pub printed : PrintsOrWants k (new_text block guid signature) status.Ok to to' answer

  -- No file was made, and nothing went: the device has bytes already; or memory was wanted; or the device failed. In the first two cases it was
  -- read alone.
  pub record MakesNone : Type 0 where
    pub answered : (answer ≡ status.NotEmpty) ⊎ ((answer ≡ status.OutOfMemory) ⊎ (answer ≡ status.DiskFault))
    pub unsent : to' ≡ to
    pub only_reads : answer ≢ status.DiskFault → OnlyReads d file file'
    pub has_bytes : answer ≡ status.NotEmpty → IsTrue d.tells → d.seen file ≢ []

  -- a run of the command
  abbrev pub RunsInit : Type 0
  RunsInit = Makes ⊎ MakesNone

-- Where neither the device nor the sink failed, the file alone says the status, but for want of memory.
abbrev pub CompletesInit : {D K : Type 0} → device.Ghosts D → sink.Ghosts K → D → D → K → K → Status → Type 0
CompletesInit d k file file' to to' answer =
    IsTrue d.tells → ¬ Rose (d.fault_count file) (d.fault_count file') → ¬ Rose (k.faults to) (k.faults to')
    → (answer ≡ status.OutOfMemory) ⊎ (answer ≡ (if length (d.seen file) == 0 then status.Ok else status.NotEmpty))
