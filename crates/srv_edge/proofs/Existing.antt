-- Any bytes are read as frames in some way.
use Rattle.std.proofs.Common.{◌≡◌, ◌≤◌, ◌<◌, ◌+◌, ◌^◌, ◌⊎◌, ℕ, zero, suc, List, [], ◌∷◌, ◌++◌, length, get_or, take, drop, refl, sym, ap, subst, ◌∙◌, inl, inr, ⊎_elim, arith, append_assoc}
use Rattle.std.proofs.lemmas.Bool.Decides.{eqb_tells, leb_tells}
use Rattle.std.proofs.lemmas.List.{get_or-drop, length-drop, length-take-le, take-append-drop}
use Rattle.byteorder.specs.Endian.{little_number}
use Rattle.srv_edge.specs.declared.kind.TheConstants.{BYE}
use Rattle.srv_edge.specs.declared.limit.TheConstants.{FRAME_BYTES}
use Rattle.srv_edge.specs.Frames.{AreFrames, Frame, IsBye, IsFrame, IsLength, IsVersion, Tail, at_bye, at_end, bad_length, cut_short, frame_bytes, length_of, tag_size, version_behind, word_bytes}
use Rattle.srv_edge.proofs.Numbers.{word_bytes-read}
use Rattle.srv_edge.proofs.Versions.{is_version_behind}

-- each is a byte
abbrev pub AreSmall : List ℕ → Type 0
AreSmall bytes = (i : ℕ) → get_or bytes i 0 < 256

-- bytes as frames
pub record Reading (version : ℕ) (bytes : List ℕ) : Type 0 where
  pub frames : List Frame
  pub tail : Tail
  pub are : AreFrames version bytes frames tail

small_drop : (n : ℕ) (bytes : List ℕ) → AreSmall bytes → AreSmall (drop n bytes)
small_drop n bytes small = λ i. omega (arith, get_or-drop n bytes i 0, small (n + i))

small_take : (n : ℕ) (bytes : List ℕ) → AreSmall bytes → AreSmall (take n bytes)
small_take zero bytes small = λ i. omega arith
small_take (suc n) [] small = λ i. omega arith
small_take (suc n) (b ∷ bytes) small = λ i. elim i as (λ i. get_or (b ∷ take n bytes) i 0 < 256) [
  | zero ↦ small 0
  | suc i ↦ small_take n bytes (λ k. small (suc k)) i
]

-- whether a frame is a Bye
bye_or_not : (f : Frame) → IsBye f ⊎ (IsBye f → ⊥)
bye_or_not f = ⊎_elim
    (λ is. elim f.message.body as (λ body. ((f.message.kind ≡ BYE) × (body ≡ [])) ⊎ ((f.message.kind ≡ BYE) × (body ≡ []) → ⊥)) [
      | [] ↦ inl (is.1, refl)
      | b ∷ body ↦ inr (λ bye. let no : b ∷ body ≡ [] = bye.1 in cc)
    ])
    (λ no. inr (λ bye. no.1 bye.0)) (eqb_tells f.message.kind BYE)

-- fewer bytes than a length has
short : (version : ℕ) (bytes : List ℕ) → length bytes < 4 → Reading version bytes
short version [] lt = record { frames = []; tail = at_end; are = refl }
short version (b ∷ bytes) lt = record { frames = []; tail = cut_short; are = inl (omega arith, lt) }

number_fits : (bytes : List ℕ) → AreSmall bytes → little_number 4 bytes < 2 ^ 32
number_fits bytes small = omega (arith, small 0, small 1, small 2, small 3)

-- as many bytes as a length of a version says, as a frame
record Whole (version n : ℕ) (part : List ℕ) : Type 0 where
  frame : Frame
  is : IsFrame version frame
  spelled : word_bytes n ++ part ≡ frame_bytes frame

whole : (version n : ℕ) (part : List ℕ) → IsVersion version → IsLength version n → length part ≡ n → AreSmall part → Whole version n part
whole version n [] is len count small = absurd (omega (arith, len.0, count))
whole version n (kind ∷ rest) (inl one) len count small =
    let f : Frame = record { head = record { version = 1; tag = 0 }; message = record { kind = kind; body = rest } } in
    let same : n ≡ length_of f = omega (arith, count) in
    record {
      frame = f;
      is = record { of_version = sym one; is_head = inl (refl, refl); is_length = subst (IsLength version) same len };
      spelled = ap (λ k. word_bytes k ++ (kind ∷ rest)) same;
    }
whole version n (kind ∷ rest) (inr two) len count small =
    let f : Frame = record { head = record { version = 2; tag = little_number 4 rest }; message = record { kind = kind; body = drop 4 rest } } in
    let small' : AreSmall rest = λ i. small (suc i) in
    let least : 5 ≤ n = subst (λ v. 1 + tag_size v ≤ n) two len.0 in
    let long : 4 ≤ length rest = omega (arith, count, least) in
    let same : n ≡ length_of f = omega (arith, count, length-drop 4 rest, long) in
    record {
      frame = f;
      is = record { of_version = sym two; is_head = inr (refl, number_fits rest small'); is_length = subst (IsLength version) same len };
      spelled = ap (λ k. word_bytes k ++ (kind ∷ rest)) same ∙ ap (λ xs. word_bytes (length_of f) ++ (kind ∷ xs)) (sym (word_bytes-read rest long small'));
    }

module _ (version : ℕ) (bytes rest : List ℕ) (n : ℕ) (spelled : bytes ≡ word_bytes n ++ rest) (is : IsVersion version) (len : IsLength version n) where
  -- a whole frame, and what is behind it
  behind : (part more : List ℕ) → rest ≡ part ++ more → (w : Whole version n part) → Reading (version_behind w.frame) more → Reading version bytes
  behind part more split w reading =
      let f = w.frame in
      let all : bytes ≡ frame_bytes f ++ more =
      spelled ∙ ap (λ xs. word_bytes n ++ xs) split ∙ sym (append_assoc (word_bytes n) part more) ∙ ap (λ xs. xs ++ more) w.spelled in
      ⊎_elim
      (λ bye. record { frames = f ∷ []; tail = at_bye; are = (w.is, more, all, inl (bye, refl, refl)) })
      (λ no. record { frames = f ∷ reading.frames; tail = reading.tail; are = (w.is, more, all, inr (no, reading.are)) })
      (bye_or_not f)

  -- a frame that is whole or not, where what is behind it is read
  framed : AreSmall rest → (n ≤ length rest → (v : ℕ) → IsVersion v → Reading v (drop n rest)) → Reading version bytes
  framed small reading = ⊎_elim
      (λ le.
      let w = whole version n (take n rest) is len (length-take-le n rest le.1) (small_take n rest small) in
      behind (take n rest) (drop n rest) (sym (take-append-drop n rest)) w (reading le.1 (version_behind w.frame) (is_version_behind version w.frame w.is)))
      (λ gt. record { frames = []; tail = cut_short; are = inr (n, rest, spelled, len, gt.1) })
      (leb_tells n (length rest))

-- a length that a request may have
length_or_not : (version n : ℕ) → IsLength version n ⊎ (IsLength version n → ⊥)
length_or_not version n = ⊎_elim
    (λ some. ⊎_elim (λ few. inl (some.1, few.1)) (λ many. inr (λ is. omega (arith, is.1, many.1))) (leb_tells n (FRAME_BYTES + tag_size version)))
    (λ none. inr (λ is. omega (arith, is.0, none.1))) (leb_tells (1 + tag_size version) n)

pub every_reading : (most version : ℕ) (bytes : List ℕ) → IsVersion version → length bytes ≤ most → AreSmall bytes → Reading version bytes
every_reading zero version bytes is le small = short version bytes (omega (arith, le))
every_reading (suc most) version bytes is le small = ⊎_elim
    (λ long.
    let n = little_number 4 bytes in
    let rest = drop 4 bytes in
    let spelled : bytes ≡ word_bytes n ++ rest = sym (word_bytes-read bytes long.1 small) in
    ⊎_elim
    (λ len. framed version bytes rest n spelled is len (small_drop 4 bytes small)
    (λ whole v is_v. every_reading most v (drop n rest) is_v (omega (arith, le, long.1, len.0, whole, length-drop n rest, length-drop 4 bytes)) (small_drop n rest (small_drop 4 bytes small))))
    (λ bad. record { frames = []; tail = bad_length version n; are = (refl, rest, spelled, number_fits bytes small, bad) })
    (length_or_not version n))
    (λ few. short version bytes few.1)
    (leb_tells 4 (length bytes))
