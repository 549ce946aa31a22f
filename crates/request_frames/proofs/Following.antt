-- What follows a frame.
use Rattle.std.proofs.Common.{◌≡◌, ◌≤◌, ◌<◌, ◌==◌, ◌&&◌, ◌^◌, ◌++◌, ℕ, Bool, true, false, nat_le, [], length, slice_index, if◌then◌else◌, refl, sym, ap, subst, ◌∙◌, arith}
use Rattle.std.proofs.lemmas.Bool.Decides.{nat_tests}
use Rattle.std.proofs.lemmas.List.{append-nil, drop_all}
use Rattle.byteorder.specs.Endian.{little_number}
use Rattle.srv_edge.specs.declared.failed.SessionEnd.TheVariants.{Bye, WriteFault}
use Rattle.srv_edge.specs.declared.head.Head.{Head}
use Rattle.srv_edge.specs.Frames.{Frame, Message, half_bytes, is_hello, spoken, version_behind}
use Rattle.srv_edge.proofs.Numbers.{half_bytes-read, length-half_bytes, little_number-half}
use Rattle.request_frames.specs.declared.serve.Turn.{Turn}
use Rattle.request_frames.specs.declared.serve.Turn.TheVariants.{GoesOn, Ends}
use Rattle.request_frames.specs.Next.{Follows, IsAnswered, turn_behind}
use Rattle.request_frames.specs.Requests.{Asked, IsAsked, IsBadBody, request_message, hello, add_type, add_item, add_name, get_type, get_item, get_name, commit, counts, bye, add_types, add_items}

-- a Hello, by its version
hello_follows : (head : Head) (v : ℕ) → 1 ≤ v → v < 2 ^ 16 → spoken v ≡ version_behind (record { head = head; message = record { kind = 1; body = half_bytes v } })
hello_follows head v some fits =
    let number : little_number 2 (half_bytes v) ≡ v = ap (little_number 2) (sym (append-nil (half_bytes v))) ∙ little_number-half v [] fits in
    let is : is_hello (record { kind = 1; body = half_bytes v }) ≡ true =
    ap (λ n. (n == 2) && nat_le 1 (little_number 2 (half_bytes v))) (length-half_bytes v) ∙ ap (nat_le 1) number ∙ grind (arith, nat_tests, some) in
    sym (ap (λ b. if b then spoken (little_number 2 (half_bytes v)) else head.version) is ∙ ap spoken number)

-- what follows a request follows its frame
pub turn_follows : (version : ℕ) (head : Head) (a : Asked) → IsAsked version a → Follows (turn_behind head.version a) (record { head = head; message = request_message a })
turn_follows version head (hello v) is = (λ bye. cc, hello_follows head v is.0 is.1)
turn_follows version head (add_type r) is = (λ bye. cc, refl)
turn_follows version head (add_item r) is = (λ bye. cc, refl)
turn_follows version head (add_name name) is = (λ bye. cc, refl)
turn_follows version head (get_type index) is = (λ bye. cc, refl)
turn_follows version head (get_item index) is = (λ bye. cc, refl)
turn_follows version head (get_name offset) is = (λ bye. cc, refl)
turn_follows version head commit is = (λ bye. cc, refl)
turn_follows version head counts is = (λ bye. cc, refl)
turn_follows version head bye is = (refl, (refl, refl))
turn_follows version head (add_types list) is = (λ bye. cc, refl)
turn_follows version head (add_items list) is = (λ bye. cc, refl)

-- what a message is whose kind and body are those of a Hello
record HelloIs (m : Message) : Type 0 where
  some : 1 ≤ little_number 2 m.body
  same : request_message (hello (little_number 2 m.body)) ≡ m

hello_is : (m : Message) → ((i : ℕ) → slice_index m.body i < 256) → is_hello m ≡ true → HelloIs m
hello_is m small is =
    let parts : (m.kind ≡ 1) × (length m.body ≡ 2) × (1 ≤ little_number 2 m.body) = grind (arith, nat_tests, is) in
    let all : half_bytes (little_number 2 m.body) ≡ m.body =
    sym (append-nil (half_bytes (little_number 2 m.body)))
    ∙ ap (λ xs. half_bytes (little_number 2 m.body) ++ xs) (sym (drop_all 2 m.body (omega (arith, parts.1))))
    ∙ half_bytes-read m.body (omega (arith, parts.1)) small in
    record {
      some = parts.2;
      same = ap (λ k. record { kind = k; body = half_bytes (little_number 2 m.body) }) (sym parts.0) ∙ ap (λ xs. record { kind = m.kind; body = xs }) all;
    }

-- where it is none
not_hello : (b : Bool) (x y : ℕ) → (b ≡ true → ⊥) → y ≡ (if b then x else y)
not_hello true x y never = absurd (never refl)
not_hello false x y never = refl

-- a body that no request has leaves the version
pub bad_follows : (version : ℕ) (head : Head) (m : Message) → ((i : ℕ) → slice_index m.body i < 256) → IsBadBody version m → Follows (GoesOn head.version) (record { head = head; message = m })
bad_follows version head m small bad = (
  λ is. bad.1 bye tt (ap (λ k. record { kind = k; body = [] }) (sym is.0) ∙ ap (λ xs. record { kind = m.kind; body = xs }) (sym is.1)),
  not_hello (is_hello m) (spoken (little_number 2 m.body)) head.version (λ is.
      let h = hello_is m small is in
      bad.1 (hello (little_number 2 m.body)) (h.some, omega (arith, small 0, small 1)) h.same),
)

-- an answered frame is followed by a turn, or by the end of a Bye
pub is_answered : (turn : Turn) (f : Frame) → Follows turn f → IsAnswered turn
is_answered (GoesOn version) f follows = tt
is_answered (Ends end) f follows = subst (λ e. IsAnswered (Ends e)) (sym follows.0) tt

-- and it is no write fault
pub no_write_fault : (turn : Turn) (f : Frame) → Follows turn f → turn ≡ Ends WriteFault → ⊥
no_write_fault (GoesOn version) f follows e = cc
no_write_fault (Ends end) f follows e = let other : end ≡ Bye = follows.0 in cc
