-- Requests as messages: the table of kinds, in both versions.
use Rattle.std.specs.Prelude.{◌≡◌, ◌≢◌, ◌≤◌, ◌<◌, ◌==◌, ◌+◌, ◌^◌, ◌⊎◌, ⊤, ℕ, List, [], length, drop, slice_index, if◌then◌else◌}
use Rattle.byteorder.specs.Endian.{little_number}
use Rattle.srv_edge.specs.declared.head.Head.{Head}
use Rattle.srv_edge.specs.declared.kind.TheConstants as kinds
use Rattle.srv_edge.specs.declared.limit.TheConstants.{RECORD_BYTES}
use Rattle.srv_edge.specs.Name.{IsName}
use Rattle.srv_edge.specs.Frames.{Frame, Message, half_bytes, tag_size, word_bytes}
use Rattle.request_frames.specs.Lists.{IsRecordList}
use Rattle.request_frames.specs.declared.request.Request.{Request}
use Rattle.request_frames.specs.declared.request.Request.TheVariants.{Hello, AddType, AddItem, AddName, GetType, GetItem, GetName, Commit, Counts, Bye, AddTypes, AddItems}

-- what a frame asks
pub data Asked : Type 0 where
  hello : ℕ → Asked
  add_type : List ℕ → Asked
  add_item : List ℕ → Asked
  add_name : List ℕ → Asked
  get_type : ℕ → Asked
  get_item : ℕ → Asked
  get_name : ℕ → Asked
  commit : Asked
  counts : Asked
  bye : Asked
  add_types : List ℕ → Asked
  add_items : List ℕ → Asked

-- what a request of the program asks
abbrev pub asked : Request → Asked
asked (Hello version) = hello version
asked (AddType r) = add_type r.now
asked (AddItem r) = add_item r.now
asked (AddName name) = add_name name.now
asked (GetType index) = get_type index
asked (GetItem index) = get_item index
asked (GetName offset) = get_name offset
asked Commit = commit
asked Counts = counts
asked Bye = bye
asked (AddTypes list) = add_types list.now
asked (AddItems list) = add_items list.now

-- the message of a request
abbrev pub request_message : Asked → Message
request_message (hello version) = record { kind = kinds.HELLO; body = half_bytes version }
request_message (add_type r) = record { kind = kinds.ADD_TYPE; body = r }
request_message (add_item r) = record { kind = kinds.ADD_ITEM; body = r }
request_message (add_name name) = record { kind = kinds.ADD_NAME; body = name }
request_message (get_type index) = record { kind = kinds.GET_TYPE; body = word_bytes index }
request_message (get_item index) = record { kind = kinds.GET_ITEM; body = word_bytes index }
request_message (get_name offset) = record { kind = kinds.GET_NAME; body = word_bytes offset }
request_message commit = record { kind = kinds.COMMIT; body = [] }
request_message counts = record { kind = kinds.COUNTS; body = [] }
request_message bye = record { kind = kinds.BYE; body = [] }
request_message (add_types list) = record { kind = kinds.ADD_TYPES; body = list }
request_message (add_items list) = record { kind = kinds.ADD_ITEMS; body = list }

-- what may be asked in a version: a version of at least 1, a name, numbers of 32 bits, and in version 2 lists of records
abbrev pub IsAsked : ℕ → Asked → Type 0
IsAsked version (hello v) = (1 ≤ v) × (v < 2 ^ 16)
IsAsked version (add_type r) = ⊤
IsAsked version (add_item r) = ⊤
IsAsked version (add_name name) = IsName name
IsAsked version (get_type index) = index < 2 ^ 32
IsAsked version (get_item index) = index < 2 ^ 32
IsAsked version (get_name offset) = offset < 2 ^ 32
IsAsked version commit = ⊤
IsAsked version counts = ⊤
IsAsked version bye = ⊤
IsAsked version (add_types list) = (version ≡ 2) × IsRecordList list
IsAsked version (add_items list) = (version ≡ 2) × IsRecordList list

-- a request whose frame a session takes: a record, and a list of them, has at most 65,536 bytes
abbrev pub FitsFrame : Asked → Type 0
FitsFrame (hello version) = ⊤
FitsFrame (add_type r) = length r ≤ RECORD_BYTES
FitsFrame (add_item r) = length r ≤ RECORD_BYTES
FitsFrame (add_name name) = ⊤
FitsFrame (get_type index) = ⊤
FitsFrame (get_item index) = ⊤
FitsFrame (get_name offset) = ⊤
FitsFrame commit = ⊤
FitsFrame counts = ⊤
FitsFrame bye = ⊤
FitsFrame (add_types list) = length list ≤ RECORD_BYTES
FitsFrame (add_items list) = length list ≤ RECORD_BYTES

-- the kinds of requests of both versions
abbrev pub IsCommonKind : ℕ → Type 0
IsCommonKind kind = (kind ≡ kinds.HELLO) ⊎ (kind ≡ kinds.ADD_TYPE) ⊎ (kind ≡ kinds.ADD_ITEM) ⊎ (kind ≡ kinds.ADD_NAME) ⊎ (kind ≡ kinds.GET_TYPE)
    ⊎ (kind ≡ kinds.GET_ITEM) ⊎ (kind ≡ kinds.GET_NAME) ⊎ (kind ≡ kinds.COMMIT) ⊎ (kind ≡ kinds.COUNTS) ⊎ (kind ≡ kinds.BYE)

-- the kinds of requests of a version
abbrev pub IsKind : ℕ → ℕ → Type 0
IsKind version kind = IsCommonKind kind ⊎ ((version ≡ 2) × ((kind ≡ kinds.ADD_TYPES) ⊎ (kind ≡ kinds.ADD_ITEMS)))

-- the head of a frame of a version, whose kind, tag and body lie one behind the other
abbrev pub head_in : ℕ → List ℕ → Head
head_in version bytes = record { version = version; tag = if version == 2 then little_number 4 (drop 1 bytes) else 0 }

-- its kind and its body
abbrev pub message_in : ℕ → List ℕ → Message
message_in version bytes = record { kind = slice_index bytes 0; body = drop (1 + tag_size version) bytes }

abbrev pub frame_in : ℕ → List ℕ → Frame
frame_in version bytes = record { head = head_in version bytes; message = message_in version bytes }

-- a message whose body is none that its kind has in a version
abbrev pub IsBadBody : ℕ → Message → Type 0
IsBadBody version m = IsKind version m.kind × ((a : Asked) → IsAsked version a → request_message a ≢ m)
