-- How a session ends follows from its input, where nothing fails.
use Rattle.std.proofs.Common.{◌≡◌, ◌≢◌, ◌≤◌, ◌<◌, ◌+◌, ◌-◌, ℕ, true, false, nat_le, List, [], ◌∷◌, ◌++◌, length, take, refl, sym, ap, subst, ◌∙◌, inl, inr, ⊎_elim, arith, append_assoc, length-append}
use Rattle.std.proofs.Math.Seq.{take-append-add, take-append_seam}
use Rattle.std.proofs.lemmas.Bool.{lt-leb}
use Rattle.std.proofs.lemmas.Bool.Decides.{nat_tests}
use Rattle.std.proofs.lemmas.List.{append-nil, take_all}
use Rattle.srv_edge.specs.declared.failed.SessionEnd.{SessionEnd}
use Rattle.srv_edge.specs.declared.failed.SessionEnd.TheVariants.{Bye, Ended, CutShort, BadLength, ReadFault, WriteFault, TooLong}
use Rattle.srv_edge.specs.Frames.{Frame, Message, Tail, at_end, cut_short, bad_length, at_bye, AreFrames, frame_bytes, version_behind, word_bytes}
use Rattle.srv_edge.proofs.Streams.{one_reading}
use Rattle.request_frames.specs.Requests.{Asked}
use Rattle.request_frames.specs.Session.{IsInputEnd, IsOpen, IsSession}
use Rattle.request_frames.specs.Serving.{end_of}

-- a tail that stays whatever follows
abbrev IsClosed : Tail → Type 0
IsClosed at_end = ⊥
IsClosed cut_short = ⊥
IsClosed (bad_length version n) = Unit {0}
IsClosed at_bye = Unit {0}

-- what follows a Bye or a bad length does not matter
frames_extend : (version : ℕ) (bytes more : List ℕ) (frames : List Frame) (tail : Tail) → IsClosed tail → AreFrames version bytes frames tail → AreFrames version (bytes ++ more) frames tail
frames_extend version bytes more [] at_end closed a = absurd closed
frames_extend version bytes more [] cut_short closed a = absurd closed
frames_extend version bytes more [] (bad_length v n) closed a = (a.0, a.1 ++ more, ap (λ xs. xs ++ more) a.2 ∙ append_assoc (word_bytes n) a.1 more, a.3, a.4)
frames_extend version bytes more [] at_bye closed a = absurd a
frames_extend version bytes more (f ∷ frames) tail closed a = (
  a.0,
  a.1 ++ more,
  ap (λ xs. xs ++ more) a.2 ∙ append_assoc (frame_bytes f) a.1 more,
  ⊎_elim (λ bye. inl bye) (λ on. inr (on.0, frames_extend (version_behind f) a.1 more frames tail closed on.1)) a.3,
)

-- bytes that come short of the limit
short : (limit n : ℕ) → n < limit → nat_le limit n ≡ false
short limit n lt = lt-leb limit n lt

-- bytes that reach it
full : (limit n : ℕ) → limit ≤ n → nat_le limit n ≡ true
full limit n le = grind (arith, nat_tests)

-- a front that reaches past a part of the bytes
take_past : (n : ℕ) (xs ys : List ℕ) → length xs ≤ n → take n (xs ++ ys) ≡ xs ++ take (n - length xs) ys
take_past n xs ys le =
    let is : n ≡ length xs + (n - length xs) = omega (arith, le) in
    ap (λ m. take m (xs ++ ys)) is ∙ take-append-add xs ys (n - length xs)

-- a front of as many bytes as the part has
take_front : (n : ℕ) (xs ys : List ℕ) → length xs ≡ n → take n (xs ++ ys) ≡ xs
take_front n xs ys is = ap (λ m. take m (xs ++ ys)) (sym is) ∙ take-append_seam xs ys

-- the end where the limit is reached
open_end : (tail : Tail) → IsOpen tail → TooLong ≡ end_of true tail
open_end tail is = ⊎_elim (λ e. ap (end_of true) (sym e)) (λ e. ap (end_of true) (sym e)) is

module _ {S : Type 0} (answers : S → Asked → Message → S → Type 0) where
  -- the input is what was read and what is left
  pub session_end : (limit : ℕ) (old new : S) (read sent input rest : List ℕ) (end : SessionEnd) → IsSession answers 1 limit old new read sent end
      → input ≡ read ++ rest → (IsInputEnd end → rest ≡ []) → end ≢ ReadFault → end ≢ WriteFault
      → (frames : List Frame) (tail : Tail) → AreFrames 1 (take limit input) frames tail → end ≡ end_of (nat_le limit (length input)) tail
  session_end limit old new read sent input rest Bye s split none no_read no_write frames tail a =
      let more = take (limit - length read) rest in
      let front : take limit input ≡ read ++ more = ap (take limit) split ∙ take_past limit read rest s.bound in
      let closed = frames_extend 1 read more s.frames at_bye tt (subst (AreFrames 1 read s.frames) s.ends s.stream) in
      ap (end_of (nat_le limit (length input))) (one_reading 1 (take limit input) s.frames frames at_bye tail (subst (λ xs. AreFrames 1 xs s.frames at_bye) (sym front) closed) a).tail
  session_end limit old new read sent input rest Ended s split none no_read no_write frames tail a =
      let same : input ≡ read = split ∙ ap (λ xs. read ++ xs) (none tt) ∙ append-nil read in
      let front : take limit input ≡ read = ap (take limit) same ∙ take_all limit read s.bound in
      let is : nat_le limit (length input) ≡ false = ap (λ xs. nat_le limit (length xs)) same ∙ short limit (length read) s.ends.1 in
      let tail_is : at_end ≡ tail = sym s.ends.0 ∙ (one_reading 1 (take limit input) s.frames frames s.tail tail (subst (λ xs. AreFrames 1 xs s.frames s.tail) (sym front) s.stream) a).tail in
      ap (end_of false) tail_is ∙ ap (λ b. end_of b tail) (sym is)
  session_end limit old new read sent input rest CutShort s split none no_read no_write frames tail a =
      let same : input ≡ read = split ∙ ap (λ xs. read ++ xs) (none tt) ∙ append-nil read in
      let front : take limit input ≡ read = ap (take limit) same ∙ take_all limit read s.bound in
      let is : nat_le limit (length input) ≡ false = ap (λ xs. nat_le limit (length xs)) same ∙ short limit (length read) s.ends.1 in
      let tail_is : cut_short ≡ tail = sym s.ends.0 ∙ (one_reading 1 (take limit input) s.frames frames s.tail tail (subst (λ xs. AreFrames 1 xs s.frames s.tail) (sym front) s.stream) a).tail in
      ap (end_of false) tail_is ∙ ap (λ b. end_of b tail) (sym is)
  session_end limit old new read sent input rest BadLength s split none no_read no_write frames tail a =
      let more = take (limit - length read) rest in
      let front : take limit input ≡ read ++ more = ap (take limit) split ∙ take_past limit read rest s.bound in
      let closed = frames_extend 1 read more s.frames (bad_length s.ends.0 s.ends.1) tt (subst (AreFrames 1 read s.frames) s.ends.2 s.stream) in
      ap (end_of (nat_le limit (length input))) (one_reading 1 (take limit input) s.frames frames (bad_length s.ends.0 s.ends.1) tail (subst (λ xs. AreFrames 1 xs s.frames (bad_length s.ends.0 s.ends.1)) (sym front) closed) a).tail
  session_end limit old new read sent input rest ReadFault s split none no_read no_write frames tail a = absurd (no_read refl)
  session_end limit old new read sent input rest WriteFault s split none no_read no_write frames tail a = absurd (no_write refl)
  session_end limit old new read sent input rest TooLong s split none no_read no_write frames tail a =
      let front : take limit input ≡ read = ap (take limit) split ∙ take_front limit read rest s.ends.1 in
      let reached : nat_le limit (length input) ≡ true = full limit (length input) (omega (arith, ap length split, length-append read rest, s.ends.1)) in
      let tail_is : s.tail ≡ tail = (one_reading 1 (take limit input) s.frames frames s.tail tail (subst (λ xs. AreFrames 1 xs s.frames s.tail) (sym front) s.stream) a).tail in
      open_end s.tail s.ends.0 ∙ ap (end_of true) tail_is ∙ ap (λ b. end_of b tail) (sym reached)
