-- A frame behind its length, and how it is read.
use Rattle.std.proofs.Common.{◌≡◌, ◌≤◌, ◌<◌, ◌-◌, ◌+◌, ◌^◌, ◌∷◌, ◌++◌, ℕ, List, [], length, drop, refl, sym, ap, subst, ◌∙◌, ⊎_elim, arith, append_assoc, length-append}
use Rattle.std.proofs.lemmas.List.{drop_at, length-drop}
use Rattle.byteorder.specs.Endian.{little_number}
use Rattle.srv_edge.specs.Frames.{Frame, IsFrame, IsHead, IsLength, frame_bytes, length_of, tag_bytes, tag_size, word_bytes}
use Rattle.srv_edge.proofs.Numbers.{length-word_bytes, little_number-word}
use Rattle.srv_edge.proofs.Streams.{length-tag_bytes}
use Rattle.request_frames.specs.Requests.{frame_in, head_in}

-- what stands behind a frame's length: its kind, its tag, its body
abbrev pub spelled_behind : Frame → List ℕ
spelled_behind f = f.message.kind ∷ (tag_bytes f.head ++ f.message.body)

pub drop-frame_bytes : (f : Frame) → drop 4 (frame_bytes f) ≡ spelled_behind f
drop-frame_bytes f = drop_at (word_bytes (length_of f)) (spelled_behind f) 4 (length-word_bytes (length_of f))

-- a frame is read again behind its length
read_one : (tag kind : ℕ) (body : List ℕ) → frame_in 1 (spelled_behind (record { head = record { version = 1; tag = tag }; message = record { kind = kind; body = body } }))
    ≡ record { head = record { version = 1; tag = 0 }; message = record { kind = kind; body = body } }
read_one tag kind body = refl

read_two : (tag kind : ℕ) (body : List ℕ) → tag < 2 ^ 32 → frame_in 2 (spelled_behind (record { head = record { version = 2; tag = tag }; message = record { kind = kind; body = body } }))
    ≡ record { head = record { version = 2; tag = tag }; message = record { kind = kind; body = body } }
read_two tag kind body fits =
    ap (λ n. record { head = record { version = 2; tag = n }; message = record { kind = kind; body = drop 4 (word_bytes tag ++ body) } }) (little_number-word tag body fits)
    ∙ ap (λ xs. record { head = record { version = 2; tag = tag }; message = record { kind = kind; body = xs } }) (drop_at (word_bytes tag) body 4 (length-word_bytes tag))

again : (version : ℕ) (f : Frame) → IsFrame version f → frame_in version (spelled_behind f) ≡ f
again version f is = ⊎_elim
    (λ one.
    let v : version ≡ 1 = sym is.of_version ∙ one.0 in
    let f' : f ≡ record { head = record { version = 1; tag = 0 }; message = f.message } =
    ap (λ n. record { head = record { version = n; tag = f.head.tag }; message = f.message }) one.0
    ∙ ap (λ n. record { head = record { version = 1; tag = n }; message = f.message }) one.1 in
    ap (λ n. frame_in n (spelled_behind f)) v ∙ ap (λ g. frame_in 1 (spelled_behind g)) f' ∙ read_one 0 f.message.kind f.message.body ∙ sym f')
    (λ two.
    let v : version ≡ 2 = sym is.of_version ∙ two.0 in
    let f' : f ≡ record { head = record { version = 2; tag = f.head.tag }; message = f.message } =
    ap (λ n. record { head = record { version = n; tag = f.head.tag }; message = f.message }) two.0 in
    ap (λ n. frame_in n (spelled_behind f)) v ∙ ap (λ g. frame_in 2 (spelled_behind g)) f' ∙ read_two f.head.tag f.message.kind f.message.body two.1 ∙ sym f')
    is.is_head

pub read_again : (version : ℕ) (f : Frame) → IsFrame version f → frame_in version (drop 4 (frame_bytes f)) ≡ f
read_again version f is = ap (frame_in version) (drop-frame_bytes f) ∙ again version f is

-- a frame that is spelled by bytes of a length is one of that version
pub framed : (version : ℕ) (bytes : List ℕ) → IsLength version (length bytes) → IsHead (head_in version bytes) → IsFrame version (frame_in version bytes)
framed version bytes len head =
    let count : length_of (frame_in version bytes) ≡ length bytes = omega (arith, len.0, length-drop (1 + tag_size version) bytes) in
    record { of_version = refl; is_head = head; is_length = subst (IsLength version) (sym count) len }

-- bytes whose tag was read spell their frame behind their length
pub spelled_two : (bytes : List ℕ) (tag : ℕ) (rest : List ℕ) → 1 ≤ length bytes → drop 1 bytes ≡ word_bytes tag ++ rest → tag < 2 ^ 32
    → frame_bytes (frame_in 2 bytes) ≡ word_bytes (length bytes) ++ bytes
spelled_two [] tag rest some read fits = absurd (omega (arith, some))
spelled_two (kind ∷ bytes) tag rest some read fits =
    let number : little_number 4 bytes ≡ tag = ap (little_number 4) read ∙ little_number-word tag rest fits in
    let body : drop 4 bytes ≡ rest = ap (drop 4) read ∙ drop_at (word_bytes tag) rest 4 (length-word_bytes tag) in
    let count : length_of (frame_in 2 (kind ∷ bytes)) ≡ length (kind ∷ bytes) = omega (arith, ap length body, ap length read, length-append (word_bytes tag) rest, length-word_bytes tag) in
    ap (λ n. word_bytes n ++ (kind ∷ (word_bytes (little_number 4 bytes) ++ drop 4 bytes))) count
    ∙ ap (λ n. word_bytes (length (kind ∷ bytes)) ++ (kind ∷ (word_bytes n ++ drop 4 bytes))) number
    ∙ ap (λ xs. word_bytes (length (kind ∷ bytes)) ++ (kind ∷ (word_bytes tag ++ xs))) body
    ∙ ap (λ xs. word_bytes (length (kind ∷ bytes)) ++ (kind ∷ xs)) (sym read)

pub length-frame_bytes : (f : Frame) → length (frame_bytes f) ≡ 4 + length_of f
length-frame_bytes f =
    omega (arith, length-append (word_bytes (length_of f)) (spelled_behind f), length-word_bytes (length_of f), length-append (tag_bytes f.head) f.message.body, length-tag_bytes f.head)

pub small_tag : (version : ℕ) → tag_size version ≤ 4
small_tag version = grind arith

-- more bytes behind a frame, and its length written anew
pub grown : (f : Frame) (more all : List ℕ) → all ≡ frame_bytes f ++ more
    → word_bytes (length all - 4) ++ drop 4 all ≡ frame_bytes (record { head = f.head; message = record { kind = f.message.kind; body = f.message.body ++ more } })
grown f more all is =
    let n = length_of f in
    let spread : all ≡ word_bytes n ++ (spelled_behind f ++ more) = is ∙ append_assoc (word_bytes n) (spelled_behind f) more in
    let count : length all - 4 ≡ length_of (record { head = f.head; message = record { kind = f.message.kind; body = f.message.body ++ more } }) =
    omega (arith, ap length is, length-append (frame_bytes f) more, length-frame_bytes f, length-append f.message.body more) in
    let rest : drop 4 all ≡ f.message.kind ∷ (tag_bytes f.head ++ (f.message.body ++ more)) =
    ap (drop 4) spread ∙ drop_at (word_bytes n) (spelled_behind f ++ more) 4 (length-word_bytes n) ∙ ap (λ xs. f.message.kind ∷ xs) (append_assoc (tag_bytes f.head) f.message.body more) in
    ap (λ k. word_bytes k ++ drop 4 all) count ∙ ap (λ xs. word_bytes (length_of (record { head = f.head; message = record { kind = f.message.kind; body = f.message.body ++ more } })) ++ xs) rest
