-- The bytes of a drawn session are read as its frames.
use Rattle.std.proofs.Common.{◌≡◌, ◌∙◌, ◌≤◌, ◌+◌, ◌-◌, ◌*◌, ◌/◌, ◌%◌, ◌==◌, ℕ, Bool, cond, true, false, List, [], ◌∷◌, ◌++◌, map, length, refl, sym, ap, subst, inl, inr, append_assoc, length-append, arith}
use Rattle.std.specs.Prelude.{decimal, replicate}
use Rattle.std.proofs.lemmas.List.{length-replicate}
use Rattle.std.specs.List.{AllByRecursion, flat_map, range_with_len}
use Rattle.std.proofs.lemmas.Fmt.{length-decimal-le_succ}
use Rattle.std.proofs.lemmas.List.Concat.{flat_map-cons}
use Rattle.srv_edge.specs.Frames.{AreFrames, Frame, frame_bytes, half_bytes, word_bytes, IsBye, IsFrame, at_bye, stream_of, version_behind}
use Rattle.srv_edge.proofs.Numbers.{length-half_bytes, length-word_bytes}
use Rattle.srv_edge.proofs.Streams.{one_reading}
use Rattle.request_frames.specs.Requests.{Asked, add_item, add_name, add_type, bye, commit, counts, get_type, request_message}
use Rattle.drawn_session.specs.Draws.{draw_behind, number_behind}
use Rattle.drawn_session.specs.Records.{filled, modifier, name_of, string_of}
use Rattle.drawn_session.specs.Requests.{commit_behind, first_request, first_requests, request_by, request_bytes, request_frame, request_of, requests, session_bytes, session_frames, unit_behind, unit_of, unit_requests}

-- a request whose frame is one of version 1, behind which a session goes on in it
record IsPlain (a : Asked) : Type 0 where
  is_frame : IsFrame 1 (request_frame a)
  no_bye : ¬ IsBye (request_frame a)
  behind : version_behind (request_frame a) ≡ 1

-- a frame of version 1 with a short body
short_frame : (a : Asked) → length (request_message a).body ≤ 65536 → IsFrame 1 (request_frame a)
short_frame a short = record { of_version = refl; is_head = inl (refl, refl); is_length = (omega arith, omega (arith, short)) }

plain_type : (r : List ℕ) → length r ≤ 65536 → IsPlain (add_type r)
plain_type r short = record { is_frame = short_frame (add_type r) short; no_bye = λ is. absurd (omega (arith, is.0)); behind = refl }

plain_item : (r : List ℕ) → length r ≤ 65536 → IsPlain (add_item r)
plain_item r short = record { is_frame = short_frame (add_item r) short; no_bye = λ is. absurd (omega (arith, is.0)); behind = refl }

plain_name : (n : List ℕ) → length n ≤ 65536 → IsPlain (add_name n)
plain_name n short = record { is_frame = short_frame (add_name n) short; no_bye = λ is. absurd (omega (arith, is.0)); behind = refl }

plain_get : (index : ℕ) → IsPlain (get_type index)
plain_get index = record { is_frame = short_frame (get_type index) (omega (arith, length-word_bytes index)); no_bye = λ is. absurd (omega (arith, is.0)); behind = refl }

plain_counts : IsPlain counts
plain_counts = record { is_frame = short_frame counts (omega arith); no_bye = λ is. absurd (omega (arith, is.0)); behind = refl }

plain_commit : IsPlain commit
plain_commit = record { is_frame = short_frame commit (omega arith); no_bye = λ is. absurd (omega (arith, is.0)); behind = refl }

-- ---- records and names are short

short_modifier : (index attributes : ℕ) → length (modifier index attributes) ≤ 65536
short_modifier index attributes =
    omega (arith, length-append (word_bytes index ++ half_bytes attributes) (242 ∷ 241 ∷ []), length-append (word_bytes index) (half_bytes attributes), length-word_bytes index, length-half_bytes attributes)

short_digits : (v : ℕ) → length (decimal (v % 1000)) ≤ 1000
short_digits v = omega (arith, length-decimal-le_succ (v % 1000) (omega arith))

short_string : (v : ℕ) → length (string_of (v % 1000)) ≤ 65536
short_string v =
    let digits = decimal (v % 1000) in
    omega (arith, length-append (word_bytes 0) (filled digits), length-append digits (replicate (4 - length digits) 0), length-replicate {A = ℕ} (4 - length digits) 0, length-word_bytes 0, short_digits v)

short_name : (v : ℕ) → length (name_of (v % 1000)) ≤ 65536
short_name v = omega (arith, short_digits v)

plain_by : (d r v : ℕ) → IsPlain (request_by d r v)
plain_by d r v = go (d == 4) (d == 5) (d == 6) (d == 7)
  where
    go : (a b c e : Bool)
        → IsPlain (cond a (add_item (string_of (v % 1000))) (cond b (add_name (name_of (v % 1000))) (cond c (get_type (4096 + r % 64)) (cond e counts (add_type (modifier (4096 + r % 64) (v % 64)))))))
    go true b c e = plain_item _ (short_string v)
    go false true c e = plain_name _ (short_name v)
    go false false true e = plain_get _
    go false false false true = plain_counts
    go false false false false = plain_type _ (short_modifier (4096 + r % 64) (v % 64))

-- ---- so all requests but the last

all_append : (xs ys : List Asked) → AllByRecursion IsPlain xs → AllByRecursion IsPlain ys → AllByRecursion IsPlain (xs ++ ys)
all_append [] ys a b = b
all_append (x ∷ xs) ys a b = (a.0, all_append xs ys a.1 b)

all_map : (f : ℕ → Asked) → ((i : ℕ) → IsPlain (f i)) → (xs : List ℕ) → AllByRecursion IsPlain (map f xs)
all_map f each [] = tt
all_map f each (x ∷ xs) = (each x, all_map f each xs)

all_flat : (f : ℕ → List Asked) → ((i : ℕ) → AllByRecursion IsPlain (f i)) → (xs : List ℕ) → AllByRecursion IsPlain (flat_map f xs)
all_flat f each [] = tt
all_flat f each (x ∷ xs) = subst (AllByRecursion IsPlain) (sym (flat_map-cons f x xs)) (all_append (f x) (flat_map f xs) (each x) (all_flat f each xs))

all_commit : (unit : ℕ) → AllByRecursion IsPlain (commit_behind unit)
all_commit unit = go (unit % 100 == 0)
  where
    go : (b : Bool) → AllByRecursion IsPlain (cond b (commit ∷ []) [])
    go true = (plain_commit, tt)
    go false = tt

all_first : AllByRecursion IsPlain first_requests
unfolding first_requests
all_first = all_map first_request (λ k. plain_type _ (short_modifier 116 k)) (range_with_len 0 64)

all_behind : (x : ℕ) → AllByRecursion IsPlain (unit_behind x)
unfolding unit_behind
all_behind x =
    all_map (λ i. request_of (draw_behind x i)) (λ i. plain_by (draw_behind x i / 64 % 8) (draw_behind x i) (draw_behind x i / 512)) (range_with_len 0 200)

all_units : (units seed : ℕ) → AllByRecursion IsPlain (unit_requests units seed)
unfolding unit_requests
all_units units seed =
    all_flat (unit_of seed) (λ u. all_append (unit_behind (number_behind seed (200 * u))) (commit_behind (u + 1)) (all_behind _) (all_commit (u + 1))) (range_with_len 0 units)

-- ---- frames, and the Bye behind them

bye_frame : IsFrame 1 (request_frame bye)
bye_frame = short_frame bye (omega arith)

frames_read : (front : List Asked) → AllByRecursion IsPlain front → AreFrames 1 (flat_map request_bytes (front ++ bye ∷ [])) (map request_frame (front ++ bye ∷ [])) at_bye
frames_read [] all = (bye_frame, [], flat_map-cons request_bytes bye [], inl ((refl, refl), refl, refl))
frames_read (a ∷ front) all = (
  all.0.is_frame,
  flat_map request_bytes (front ++ bye ∷ []),
  flat_map-cons request_bytes a (front ++ bye ∷ []),
  inr (all.0.no_bye, subst (λ version. AreFrames version (flat_map request_bytes (front ++ bye ∷ [])) (map request_frame (front ++ bye ∷ [])) at_bye) (sym all.0.behind) (frames_read front all.1)),
)

pub session_read : (units seed : ℕ) → AreFrames 1 (session_bytes units seed) (session_frames units seed) at_bye
session_read units seed = frames_read (first_requests ++ unit_requests units seed) (all_append first_requests (unit_requests units seed) all_first (all_units units seed))

stream_is : (requests : List Asked) → flat_map request_bytes requests ≡ stream_of (map request_frame requests)
stream_is [] = refl
stream_is (a ∷ requests) = flat_map-cons request_bytes a requests ∙ ap (λ bytes. request_bytes a ++ bytes) (stream_is requests)

pub session_stream : (units seed : ℕ) → session_bytes units seed ≡ stream_of (session_frames units seed)
session_stream units seed = stream_is (requests units seed)

-- ---- what is read up to a Bye is all of it

bye_last : (frames : List Frame) (version : ℕ) (bytes rest : List ℕ) → AreFrames version bytes frames at_bye → AreFrames version (bytes ++ rest) frames at_bye
bye_last [] version bytes rest are = absurd are
bye_last (f ∷ frames) version bytes rest (is, behind, e, inl last) =
    (is, behind ++ rest, ap (λ xs. xs ++ rest) e ∙ append_assoc (frame_bytes f) behind rest, inl last)
bye_last (f ∷ frames) version bytes rest (is, behind, e, inr more) =
    (is, behind ++ rest, ap (λ xs. xs ++ rest) e ∙ append_assoc (frame_bytes f) behind rest, inr (more.0, bye_last frames (version_behind f) behind rest more.1))

pub whole_session : (units seed : ℕ) (read rest : List ℕ) (frames : List Frame) → session_bytes units seed ≡ read ++ rest → AreFrames 1 read frames at_bye → read ≡ stream_of frames
    → read ≡ session_bytes units seed
whole_session units seed read rest frames all are stream =
    let longer = subst (λ bytes. AreFrames 1 bytes frames at_bye) (sym all) (bye_last frames 1 read rest are) in
    let same = one_reading 1 (session_bytes units seed) frames (session_frames units seed) at_bye at_bye longer (session_read units seed) in
    stream ∙ ap stream_of same.frames ∙ sym (session_stream units seed)
