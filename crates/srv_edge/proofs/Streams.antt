-- Streams of frames: how a reading grows by a frame, and that two readings of the same bytes agree.
use Rattle.std.proofs.Common.{◌≡◌, ◌<◌, ◌+◌, ◌^◌, ℕ, List, [], ◌∷◌, ◌++◌, length, take, drop, refl, sym, ap, subst, ◌∙◌, inl, ⊎_elim, arith, append_assoc, length-append}
use Rattle.std.proofs.lemmas.List.{append-nil, take_at, drop_at}
use Rattle.srv_edge.specs.declared.head.Head.{Head}
use Rattle.srv_edge.specs.Frames.{AreFrames, Frame, IsBye, IsFrame, IsHead, IsLength, IsPartFrame, Stops, Tail, at_bye, at_end, bad_length, cut_short, frame_bytes, length_of, tag_bytes, tag_size, version_behind, word_bytes}
use Rattle.srv_edge.proofs.Numbers.{same_word, length-word_bytes}

-- the tag of each version
one_tag : (h : Head) → h.version ≡ 1 → tag_bytes h ≡ []
one_tag h one = rw one refl

two_tag : (h : Head) → h.version ≡ 2 → tag_bytes h ≡ word_bytes h.tag
two_tag h two = rw two refl

pub length-tag_bytes : (h : Head) → length (tag_bytes h) ≡ tag_size h.version
length-tag_bytes h = grind (arith, length-word_bytes h.tag)

-- what begins with two tags of one version begins with one
record SameTag (h g : Head) (xs ys : List ℕ) : Type 0 where
  head : h ≡ g
  rest : xs ≡ ys

same_tag : (h g : Head) (xs ys : List ℕ) → IsHead h → IsHead g → h.version ≡ g.version → tag_bytes h ++ xs ≡ tag_bytes g ++ ys → SameTag h g xs ys
same_tag h g xs ys ih ig v e = ⊎_elim
    (λ one. ⊎_elim
    (λ one'. record {
      head = ap (λ n. record { version = n; tag = h.tag }) v ∙ ap (λ n. record { version = g.version; tag = n }) (one.1 ∙ sym one'.1);
      rest = sym (ap (λ zs. zs ++ xs) (one_tag h one.0)) ∙ e ∙ ap (λ zs. zs ++ ys) (one_tag g one'.0);
    })
    (λ two'. absurd (omega (arith, one.0, two'.0, v)))
    ig)
    (λ two. ⊎_elim
    (λ one'. absurd (omega (arith, two.0, one'.0, v)))
    (λ two'.
    let w = same_word h.tag g.tag xs ys two.1 two'.1 (sym (ap (λ zs. zs ++ xs) (two_tag h two.0)) ∙ e ∙ ap (λ zs. zs ++ ys) (two_tag g two'.0)) in
    record {
      head = ap (λ n. record { version = n; tag = h.tag }) v ∙ ap (λ n. record { version = g.version; tag = n }) w.number;
      rest = w.rest;
    })
    ig)
    ih

-- frames of requests from a version on, none of them a Bye
abbrev pub GoOn : ℕ → List Frame → Type 0
GoOn version [] = Unit {0}
GoOn version (f ∷ frames) = IsFrame version f × ¬ IsBye f × GoOn (version_behind f) frames

-- a Bye is the only frame
pub frames_bye : (version : ℕ) (f : Frame) → IsFrame version f → IsBye f → AreFrames version (frame_bytes f) (f ∷ []) at_bye
frames_bye version f is bye = (is, [], sym (append-nil (frame_bytes f)), inl (bye, refl, refl))

-- what begins with two frames begins with one
pub record SameFrame (f g : Frame) (xs ys : List ℕ) : Type 0 where
  pub frame : f ≡ g
  pub rest : xs ≡ ys

-- what stands behind the length of a frame
abbrev behind_length : Frame → List ℕ → List ℕ
behind_length f xs = f.message.kind ∷ (tag_bytes f.head ++ (f.message.body ++ xs))

-- a frame and what follows it, its length first
spread : (f : Frame) (xs : List ℕ) → frame_bytes f ++ xs ≡ word_bytes (length_of f) ++ behind_length f xs
spread f xs =
    append_assoc (word_bytes (length_of f)) (f.message.kind ∷ (tag_bytes f.head ++ f.message.body)) xs
    ∙ ap (λ zs. word_bytes (length_of f) ++ (f.message.kind ∷ zs)) (append_assoc (tag_bytes f.head) f.message.body xs)

pub length_fits : (version n : ℕ) → IsLength version n → n < 2 ^ 32
length_fits version n len = grind (arith, len.1)

pub same_frame : (version : ℕ) (f g : Frame) (xs ys : List ℕ) → IsFrame version f → IsFrame version g → frame_bytes f ++ xs ≡ frame_bytes g ++ ys → SameFrame f g xs ys
same_frame version f g xs ys lf lg e =
    let w = same_word (length_of f) (length_of g) (behind_length f xs) (behind_length g ys) (length_fits version (length_of f) lf.is_length) (length_fits version (length_of g) lg.is_length) (sym (spread f xs) ∙ e ∙ spread g ys) in
    let r : behind_length f xs ≡ behind_length g ys = w.rest in
    let kind : f.message.kind ≡ g.message.kind = cc in
    let behind : tag_bytes f.head ++ (f.message.body ++ xs) ≡ tag_bytes g.head ++ (g.message.body ++ ys) = cc in
    let t = same_tag f.head g.head (f.message.body ++ xs) (g.message.body ++ ys) lf.is_head lg.is_head (lf.of_version ∙ sym lg.of_version) behind in
    let both : f.message.body ++ xs ≡ g.message.body ++ ys = t.rest in
    let size : tag_size f.head.version ≡ tag_size g.head.version = ap (λ h. tag_size h.version) t.head in
    let n : length f.message.body ≡ length g.message.body = omega (arith, w.number, size) in
    let body : f.message.body ≡ g.message.body = sym (take_at f.message.body xs (length f.message.body) refl) ∙ ap (take (length f.message.body)) both ∙ take_at g.message.body ys (length f.message.body) (sym n) in
    let message : f.message ≡ g.message = ap (λ k. record { kind = k; body = f.message.body }) kind ∙ ap (λ b. record { kind = g.message.kind; body = b }) body in
    record {
      frame = ap (λ h. record { head = h; message = f.message }) t.head ∙ ap (λ m. record { head = g.head; message = m }) message;
      rest = sym (drop_at f.message.body xs (length f.message.body) refl) ∙ ap (drop (length f.message.body)) both ∙ drop_at g.message.body ys (length f.message.body) (sym n);
    }

-- a number of four bytes and what follows it is not short
long : (n : ℕ) (xs bytes : List ℕ) → bytes ≡ word_bytes n ++ xs → 4 + length xs ≡ length bytes
long n xs bytes e = omega (arith, ap length e, length-append (word_bytes n) xs, length-word_bytes n)

-- how many bytes stand behind the length of a frame, and what follows it
length-behind : (f : Frame) (xs : List ℕ) → length (behind_length f xs) ≡ length_of f + length xs
length-behind f xs = omega (arith, length-append (tag_bytes f.head) (f.message.body ++ xs), length-append f.message.body xs, length-tag_bytes f.head)

-- a whole frame is no place to stop
pub no_stop : (version : ℕ) (f : Frame) (xs : List ℕ) (tail : Tail) → IsFrame version f → Stops version (frame_bytes f ++ xs) tail → ⊥
no_stop version f xs at_end is s =
    omega (arith, long (length_of f) (behind_length f xs) (frame_bytes f ++ xs) (spread f xs), ap length s)
no_stop version f xs cut_short is s = ⊎_elim
    (λ short. omega (arith, long (length_of f) (behind_length f xs) (frame_bytes f ++ xs) (spread f xs), short.1))
    (λ part.
    let w = same_word (length_of f) part.0 (behind_length f xs) part.1 (length_fits version (length_of f) is.is_length) (length_fits version part.0 part.3) (sym (spread f xs) ∙ part.2) in
    omega (arith, w.number, ap length w.rest, length-behind f xs, part.4))
    s
no_stop version f xs (bad_length v n) is s =
    let w = same_word (length_of f) n (behind_length f xs) s.1 (length_fits version (length_of f) is.is_length) s.3 (sym (spread f xs) ∙ s.2) in
    s.4 (subst (IsLength version) w.number is.is_length)
no_stop version f xs at_bye is s = s

-- no byte is no part of a frame
nothing_cut : (version : ℕ) (bytes : List ℕ) → bytes ≡ [] → IsPartFrame version bytes → ⊥
nothing_cut version bytes none cut = ⊎_elim
    (λ short. omega (arith, short.0, ap length none))
    (λ part. omega (arith, long part.0 part.1 bytes part.2, ap length none))
    cut

-- a frame that is cut has no bad length
cut_or_bad : (version : ℕ) (bytes : List ℕ) (v n : ℕ) → IsPartFrame version bytes → Stops version bytes (bad_length v n) → ⊥
cut_or_bad version bytes v n cut bad = ⊎_elim
    (λ short. omega (arith, long n bad.1 bytes bad.2, short.1))
    (λ part. bad.4 (subst (IsLength version) (same_word part.0 n part.1 bad.1 (length_fits version part.0 part.3) bad.3 (sym part.2 ∙ bad.2)).number part.3))
    cut

-- what stops in two ways stops in one
pub one_stop : (version : ℕ) (bytes : List ℕ) (t u : Tail) → Stops version bytes t → Stops version bytes u → t ≡ u
one_stop version bytes at_end at_end s r = refl
one_stop version bytes at_end cut_short s r = absurd (nothing_cut version bytes s r)
one_stop version bytes at_end (bad_length v n) s r = absurd (omega (arith, long n r.1 bytes r.2, ap length s))
one_stop version bytes cut_short at_end s r = absurd (nothing_cut version bytes r s)
one_stop version bytes cut_short cut_short s r = refl
one_stop version bytes cut_short (bad_length v n) s r = absurd (cut_or_bad version bytes v n s r)
one_stop version bytes (bad_length v n) at_end s r = absurd (omega (arith, long n s.1 bytes s.2, ap length r))
one_stop version bytes (bad_length v n) cut_short s r = absurd (cut_or_bad version bytes v n r s)
one_stop version bytes (bad_length v n) (bad_length w m) s r =
    ap (λ k. bad_length k n) (s.0 ∙ sym r.0) ∙ ap (bad_length w) (same_word n m s.1 r.1 s.3 r.3 (sym s.2 ∙ r.2)).number
one_stop version bytes at_bye u s r = absurd s
one_stop version bytes t at_bye s r = absurd r

-- two readings of a stream
pub record SameReading (fs gs : List Frame) (t u : Tail) : Type 0 where
  pub frames : fs ≡ gs
  pub tail : t ≡ u

-- The same bytes are read in one way.
pub one_reading : (version : ℕ) (bytes : List ℕ) (fs gs : List Frame) (t u : Tail) → AreFrames version bytes fs t → AreFrames version bytes gs u → SameReading fs gs t u
one_reading version bytes [] [] t u a b = record { frames = refl; tail = one_stop version bytes t u a b }
one_reading version bytes [] (g ∷ gs) t u a b = absurd (no_stop version g b.1 t b.0 (subst (λ xs. Stops version xs t) b.2 a))
one_reading version bytes (f ∷ fs) [] t u a b = absurd (no_stop version f a.1 u a.0 (subst (λ xs. Stops version xs u) a.2 b))
one_reading version bytes (f ∷ fs) (g ∷ gs) t u a b =
    let same = same_frame version f g a.1 b.1 a.0 b.0 (sym a.2 ∙ b.2) in
    ⊎_elim
    (λ bye. ⊎_elim
    (λ bye'. record { frames = ap (λ x. x ∷ fs) same.frame ∙ ap (λ xs. g ∷ xs) (bye.1 ∙ sym bye'.1); tail = bye.2 ∙ sym bye'.2 })
    (λ on'. absurd (on'.0 (subst IsBye same.frame bye.0)))
    b.3)
    (λ on. ⊎_elim
    (λ bye'. absurd (on.0 (subst IsBye (sym same.frame) bye'.0)))
    (λ on'.
    let from = subst (λ x. AreFrames (version_behind x) a.1 fs t) same.frame on.1 in
    let rest = one_reading (version_behind g) b.1 fs gs t u (subst (λ xs. AreFrames (version_behind g) xs fs t) same.rest from) on'.1 in
    record { frames = ap (λ x. x ∷ fs) same.frame ∙ ap (λ xs. g ∷ xs) rest.frames; tail = rest.tail })
    b.3)
    a.3
