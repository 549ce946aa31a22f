-- What the command `gen` does.
use Rattle.std.specs.Prelude.{◌≡◌, ◌⊎◌, ℕ, true, List, ◌++◌, length, replicate, Some, is_some}
use Rattle.srv_edge.specs.declared.device.Device as device
use Rattle.srv_edge.specs.declared.failed.SessionEnd.TheVariants.{Bye}
use Rattle.srv_edge.specs.declared.sink.Sink as sink
use Rattle.srv_edge.specs.Count.{Rose}
use Rattle.msf_image.specs.declared.image.Image.{Image}
use Rattle.msf_image.specs.Packed.{packed_image}
use Rattle.type_hash.specs.Hash.{string_v2_of}
use Rattle.request_frames.specs.Session.{IsSession}
use Rattle.request_frames.specs.Talk.{disk_faults}
use Rattle.table_model.specs.Bounds.{standard}
use Rattle.table_model.specs.Tables.{Tables}
use Rattle.type_store.specs.Files.{FileView, IsShown, cut_of}
use Rattle.type_store.specs.NewFile.{new_contents}
use Rattle.type_store.specs.Opened.{IsOpened}
use Rattle.type_store.specs.Shape.{Shape, sizes_in}
use Rattle.hub.specs.Books.{BookView}
use Rattle.client_session.specs.Course.{Answers, Course, course_from}
use Rattle.client_session.specs.Served.{IsServed}
use Rattle.drawn_session.specs.Line.{line_text}
use Rattle.drawn_session.specs.Requests.{session_bytes}
use Rattle.srv_edge.specs.declared.limit.TheConstants.{SESSION_BYTES}
use Rattle.program_status.specs.declared.status.Status.{Status}
use Rattle.program_status.specs.declared.status.Status.TheVariants as status
use Rattle.file_commands.specs.Making.{first_cut}
use Rattle.program_status.specs.Prints.{Prints}

-- the image of the new file over which a drawn session runs
abbrev pub new_image : Image
new_image = packed_image 4096 0 (new_contents (replicate 16 0) 0)

-- its shape: the size and the number of its blocks, and the sizes of its streams
pub record IsNewShape (shape : Shape) : Type 0 where
  pub block : shape.block ≡ new_image.head.block
  pub blocks : shape.blocks ≡ new_image.head.blocks
  pub sizes : shape.sizes ≡ sizes_in new_image.directory

-- the book of that file, just made
pub record IsNewBook {D : Type 0} (d : device.Ghosts D) (book : BookView D) : Type 0 where
  pub view : FileView D
  pub there : book.file ≡ Some view
  pub opened : IsOpened standard (d.seen view.device) view book.tables
  pub image : view.image ≡ new_image
  pub first : cut_of view.last book.tables ≡ first_cut
  pub shown : IsShown d.may_leave view

-- Bytes were served over a book up to a Bye, and this is the hash of the replies.
pub record HasReplies {D : Type 0} (d : device.Ghosts D) (bytes : List ℕ) (old new : BookView D) (hash : ℕ) : Type 0 where
  pub read : List ℕ
  pub rest : List ℕ
  pub sent : List ℕ
  pub served : IsServed d SESSION_BYTES old new read sent Bye
  pub bytes_are : bytes ≡ read ++ rest
  pub hash_is : hash ≡ string_v2_of sent
  pub file_there : is_some new.file ≡ true

-- A session that was drawn: exactly its frames were read, and these replies to them were sent, of tables that were empty at
-- the start and are these at the end. None of them is a fault of the device.
pub record IsDrawn (units seed : ℕ) (tables : Tables) (sent : List ℕ) : Type 0 where
  pub shape : Shape
  pub new_shape : IsNewShape shape
  pub course : Course
  pub session : IsSession (Answers standard.blocks shape) 1 SESSION_BYTES (course_from first_cut) course (session_bytes units seed) sent Bye
  pub no_disk_fault : disk_faults session.replies ≡ 0
  pub tables_are : course.tables ≡ tables

-- the line of a session, by the tables that it left and the bytes of its replies
abbrev pub drawn_line : ℕ → Tables → List ℕ → List ℕ
drawn_line units tables sent =
    line_text units (record {
      types = length tables.types.records;
      items = length tables.items.records;
      names = length tables.names.names;
      hash = string_v2_of sent;
    })

-- this is the line of a session that was drawn
pub record IsDrawnLine (units seed : ℕ) (line : List ℕ) : Type 0 where
  pub tables : Tables
  pub sent : List ℕ
  pub drawn : IsDrawn units seed tables sent
  pub is : line ≡ drawn_line units tables sent

module _ {K : Type 0} (k : sink.Ghosts K) (units seed : ℕ) (to to' : K) (answer : Status) where
  -- The line of a session that was drawn was printed.
  pub record PrintsDrawn : Type 0 where
    pub line : List ℕ
    pub is_line : IsDrawnLine units seed line
    pub printed : Prints k line status.Ok to to' answer

  -- a run of the command: that, or nothing was printed for want of memory
  abbrev pub RunsGen : Type 0
  RunsGen = ((answer ≡ status.OutOfMemory) × (to' ≡ to)) ⊎ PrintsDrawn

-- Where the sink did not fail, only memory may be wanted.
abbrev pub CompletesGen : {K : Type 0} → sink.Ghosts K → K → K → Status → Type 0
CompletesGen k to to' answer = ¬ Rose (k.faults to) (k.faults to') → (answer ≡ status.OutOfMemory) ⊎ (answer ≡ status.Ok)
