-- The requests of a drawn session, and their bytes.
use Rattle.std.specs.Prelude.{ℕ, ◌+◌, ◌*◌, ◌/◌, ◌%◌, ◌==◌, List, [], ◌∷◌, ◌++◌, map, if◌then◌else◌}
use Rattle.std.specs.List.{flat_map, range_with_len}
use Rattle.srv_edge.specs.Frames.{Frame, frame_bytes}
use Rattle.request_frames.specs.Requests.{Asked, add_item, add_name, add_type, bye, commit, counts, get_type, request_message}
use Rattle.drawn_session.specs.Draws.{draw_behind, number_behind}
use Rattle.drawn_session.specs.Records.{modifier, name_of, string_of}

-- The request of a draw r, with v what stands above its lowest nine bits, by the three highest of these bits: four of eight add
-- a modifier of one of the first 64 types, and one each adds a string, adds a name, gets one of these types, and counts.
abbrev pub request_by : ℕ → ℕ → ℕ → Asked
request_by d r v =
    if d == 4 then add_item (string_of (v % 1000))
    else (if d == 5 then add_name (name_of (v % 1000))
    else (if d == 6 then get_type (4096 + r % 64)
    else (if d == 7 then counts
    else add_type (modifier (4096 + r % 64) (v % 64)))))

abbrev pub request_of : ℕ → Asked
request_of r = request_by (r / 64 % 8) r (r / 512)

-- the first 64 requests add the modifiers of the type 74 hex with the attributes 0 to 63
abbrev pub first_request : ℕ → Asked
first_request k = add_type (modifier 116 k)

unfoldable pub first_requests : List Asked
first_requests = map first_request (range_with_len 0 64)

-- a unit has 200 requests, drawn behind a number
unfoldable pub unit_behind : ℕ → List Asked
unit_behind x = map (λ i. request_of (draw_behind x i)) (range_with_len 0 200)

-- behind each hundredth unit stands a commit
abbrev pub commit_behind : ℕ → List Asked
commit_behind unit = if unit % 100 == 0 then commit ∷ [] else []

-- a unit, counted from 1, with its commit: 200 draws were made for each unit before it
abbrev pub unit_of : ℕ → ℕ → List Asked
unit_of seed before = unit_behind (number_behind seed (200 * before)) ++ commit_behind (before + 1)

unfoldable pub unit_requests : ℕ → ℕ → List Asked
unit_requests units seed = flat_map (unit_of seed) (range_with_len 0 units)

-- all of the session: the last request is Bye
abbrev pub requests : ℕ → ℕ → List Asked
requests units seed = first_requests ++ unit_requests units seed ++ bye ∷ []

-- the frame of a request in version 1
abbrev pub request_frame : Asked → Frame
request_frame a = record { head = record { version = 1; tag = 0 }; message = request_message a }

abbrev pub request_bytes : Asked → List ℕ
request_bytes a = frame_bytes (request_frame a)

-- the frames of the session, and their bytes
abbrev pub session_frames : ℕ → ℕ → List Frame
session_frames units seed = map request_frame (requests units seed)

abbrev pub session_bytes : ℕ → ℕ → List ℕ
session_bytes units seed = flat_map request_bytes (requests units seed)
