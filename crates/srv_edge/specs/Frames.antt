-- The frames of a stream of bytes, in both versions of the protocol, and how the stream stops.
use Rattle.std.specs.Prelude.{◌≡◌, ◌≤◌, ◌<◌, ◌==◌, ◌&&◌, ◌+◌, ◌^◌, ◌⊎◌, nat_le, ℕ, Bool, List, [], ◌∷◌, ◌++◌, length, if◌then◌else◌}
use Rattle.byteorder.specs.Endian.{little_bytes, little_number}
use Rattle.srv_edge.specs.declared.code.TheConstants as code
use Rattle.srv_edge.specs.declared.head.Head.{Head}
use Rattle.srv_edge.specs.declared.kind.TheConstants as kinds
use Rattle.srv_edge.specs.declared.limit.TheConstants.{FRAME_BYTES}

-- the four bytes of a number, the lowest first
unfoldable pub word_bytes : ℕ → List ℕ
word_bytes n = little_bytes 4 n

-- the two bytes of a number, the lowest first
unfoldable pub half_bytes : ℕ → List ℕ
half_bytes n = little_bytes 2 n

-- what a frame says: a kind and a body
pub record Message : Type 0 where
  pub kind : ℕ
  pub body : List ℕ

-- a message in a version, with a tag
pub record Frame : Type 0 where
  pub head : Head
  pub message : Message

-- there are two versions
abbrev pub IsVersion : ℕ → Type 0
IsVersion version = (version ≡ 1) ⊎ (version ≡ 2)

-- a head of version 1 has no tag, one of version 2 any of 32 bits
abbrev pub IsHead : Head → Type 0
IsHead head = ((head.version ≡ 1) × (head.tag ≡ 0)) ⊎ ((head.version ≡ 2) × (head.tag < 2 ^ 32))

-- how many bytes a tag has: four in version 2, none in version 1
abbrev pub tag_size : ℕ → ℕ
tag_size version = if version == 2 then 4 else 0

abbrev pub tag_bytes : Head → List ℕ
tag_bytes head = if head.version == 2 then word_bytes head.tag else []

-- the number that stands before a frame: how many bytes its kind, its tag and its body have
abbrev pub length_of : Frame → ℕ
length_of f = 1 + tag_size f.head.version + length f.message.body

-- a frame as it stands on the stream: its length, its kind, its tag, its body
abbrev pub frame_bytes : Frame → List ℕ
frame_bytes f = word_bytes (length_of f) ++ f.message.kind ∷ (tag_bytes f.head ++ f.message.body)

-- frames, one after another
abbrev pub stream_of : List Frame → List ℕ
stream_of [] = []
stream_of (f ∷ frames) = frame_bytes f ++ stream_of frames

-- a length that the frame of a request has in a version
abbrev pub IsLength : ℕ → ℕ → Type 0
IsLength version n = (1 + tag_size version ≤ n) × (n ≤ FRAME_BYTES + tag_size version)

-- a frame that a request has in a version
pub record IsFrame (version : ℕ) (f : Frame) : Type 0 where
  pub of_version : f.head.version ≡ version
  pub is_head : IsHead f.head
  pub is_length : IsLength version (length_of f)

-- how a stream stops behind its whole frames: between two frames, within a frame, in a version at a length
-- that no request of it has, or at a Bye frame
pub data Tail : Type 0 where
  at_end : Tail
  cut_short : Tail
  bad_length : ℕ → ℕ → Tail
  at_bye : Tail

-- a Bye frame has no body
abbrev pub IsBye : Frame → Type 0
IsBye f = (f.message.kind ≡ kinds.BYE) × (f.message.body ≡ [])

-- a Hello asks for a version of at least 1
abbrev pub is_hello : Message → Bool
is_hello m = (m.kind == kinds.HELLO) && ((length m.body == 2) && nat_le 1 (little_number 2 m.body))

-- the version that is spoken where this one is asked for: the smaller of it and 2
abbrev pub spoken : ℕ → ℕ
spoken version = if nat_le 2 version then 2 else version

-- the version of the frames behind a frame: the one that a Hello asks for, or else its own
abbrev pub version_behind : Frame → ℕ
version_behind f = if is_hello f.message then spoken (little_number 2 f.message.body) else f.head.version

-- fewer bytes than a length has, or a length and fewer bytes than it says
abbrev pub IsPartFrame : ℕ → List ℕ → Type 0
IsPartFrame version bytes = ((0 < length bytes) × (length bytes < 4))
    ⊎ ((n : ℕ) × (part : List ℕ) × (bytes ≡ word_bytes n ++ part) × IsLength version n × (length part < n))

-- what is no whole frame in a version, by how the stream stops there
abbrev pub Stops : ℕ → List ℕ → Tail → Type 0
Stops version rest at_end = rest ≡ []
Stops version rest cut_short = IsPartFrame version rest
Stops version rest (bad_length v n) = (v ≡ version) × (more : List ℕ) × (rest ≡ word_bytes n ++ more) × (n < 2 ^ 32) × ¬ IsLength version n
Stops version rest at_bye = ⊥

-- The bytes are these frames, from the front, of which the first has this version, and then stop so. A Bye frame is the
-- last, whatever follows it.
abbrev pub AreFrames : ℕ → List ℕ → List Frame → Tail → Type 0
AreFrames version bytes [] tail = Stops version bytes tail
AreFrames version bytes (f ∷ frames) tail = IsFrame version f × (rest : List ℕ) × (bytes ≡ frame_bytes f ++ rest)
    × ((IsBye f × (frames ≡ []) × (tail ≡ at_bye)) ⊎ (¬ IsBye f × AreFrames (version_behind f) rest frames tail))

-- Nothing was read that the frames did not ask for: no byte behind a Bye frame, and none behind the
-- four bytes of a bad length.
abbrev pub ReadsNoMore : List ℕ → List Frame → Tail → Type 0
ReadsNoMore bytes frames at_end = bytes ≡ stream_of frames
ReadsNoMore bytes frames cut_short = (part : List ℕ) × (bytes ≡ stream_of frames ++ part)
ReadsNoMore bytes frames (bad_length version n) = bytes ≡ stream_of frames ++ word_bytes n
ReadsNoMore bytes frames at_bye = bytes ≡ stream_of frames

-- a refusal by its code and its two numbers
abbrev pub refused : ℕ → ℕ → ℕ → Message
refused which a b = record { kind = kinds.REFUSED; body = which ∷ word_bytes a ++ word_bytes b }

-- the refusal of a length: its tag is 0
abbrev pub refused_length : ℕ → ℕ → Frame
refused_length version n = record { head = record { version = version; tag = 0 }; message = refused code.BAD_LENGTH n 0 }

-- what is sent: the replies, and where the stream stops at a bad length the refusal of it
abbrev pub session_text : List Frame → Tail → List ℕ
session_text replies at_end = stream_of replies
session_text replies cut_short = stream_of replies
session_text replies (bad_length version n) = stream_of replies ++ frame_bytes (refused_length version n)
session_text replies at_bye = stream_of replies
