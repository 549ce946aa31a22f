-- What the record of calls on a file says of its images: the proofs of a device's laws.
use Rattle.std.proofs.Common.{◌≡◌, ◌≤◌, ◌<◌, ◌+◌, ◌++◌, ◌⊎◌, inl, inr, ℕ, Bool, true, false, List, [], ◌∷◌, length, get_or, take, replicate, refl, sym, ◌∙◌, ap, ap₂, subst, arith}
use Rattle.std.proofs.lemmas.List.{length-replicate, length_push, take_more, take-append-le, take_all}
use Rattle.std.proofs.lemmas.Bool.{cases_lt}
use Rattle.srv_edge.specs.Disk.{splice_with, Torn, Among, Elapses}
use Rattle.srv_edge.specs.Torn.{torn-splice, torn-same}
use Rattle.srv_edge.specs.Replay.{Step, torn, whole, State, IsImage, IsImageOf, after_kind, after_call, after_calls, first_state, state_of, LeftSince, Adds, image_from, image_of}
use Rattle.srv_edge.specs.Kinds.{IsStill}
use Rattle.srv_edge.specs.declared.memory_record.Call.{Call}
use Rattle.srv_edge.specs.declared.memory_record.CallKind.{CallKind}
use Rattle.srv_edge.specs.declared.memory_record.CallKind.TheVariants.{Size, Read, Write, Super, Sync}

-- what a read gives stays an image
seen_after : (s : State) (kind : CallKind) (bytes : List ℕ) (done : Bool) → IsImageOf s s.seen → IsImageOf (after_kind s kind bytes done) (after_kind s kind bytes done).seen
seen_after s Size bytes done image = image
seen_after s (Read at) bytes done image = image
seen_after s (Write at) bytes true image = (s.seen, image, torn-splice 0 s.seen at bytes)
seen_after s (Write at) bytes false image = (s.seen, image, torn-same at (length bytes) s.seen)
seen_after s Super bytes true image = (s.seen, image, inr refl)
seen_after s Super bytes false image = (s.seen, image, inl refl)
seen_after s Sync bytes true image = refl
seen_after s Sync bytes false image = image

seen_stays : (calls : List Call) (s : State) → IsImageOf s s.seen → IsImageOf (after_calls s calls) (after_calls s calls).seen
seen_stays [] s image = image
seen_stays (c ∷ calls) s image = seen_stays calls (after_call s c) (seen_after s c.kind c.bytes.items c.done image)

pub seen_image : (file : List ℕ) (calls : List Call) (bytes : List ℕ) → bytes ≡ (state_of file calls).seen → IsImageOf (state_of file calls) bytes
seen_image file calls bytes is =
    let P : List ℕ → Type 0 = λ c. IsImageOf (state_of file calls) c in subst P (sym is) (seen_stays calls (first_state file) refl)

-- this moment is one of those since an earlier one
pub left_now : (file : List ℕ) (calls : List Call) (t : ℕ) (c : List ℕ) → t ≤ length calls → IsImageOf (state_of file calls) c → LeftSince file calls t c
left_now file calls t c le image =
    let P : List Call → Type 0 = λ kept. IsImageOf (state_of file kept) c in
    (length calls, le, omega arith, subst P (sym (take_all (length calls) calls (omega arith))) image)

-- since this moment there is no other
pub left_only : (file : List ℕ) (calls : List Call) (c : List ℕ) → LeftSince file calls (length calls) c → IsImageOf (state_of file calls) c
left_only file calls c left =
    let P : List Call → Type 0 = λ kept. IsImageOf (state_of file kept) c in subst P (take_all left.0 calls left.1) left.3

-- a number within one more than another
within_or_next : (k n : ℕ) → k ≤ n + 1 → (k ≤ n) ⊎ (n + 1 ≤ k)
within_or_next k n le = elim (cases_lt n k) [ inl more ↦ inr (omega arith) | inr within ↦ inl within ]

-- one call more is kept
elapses_one : (file : List ℕ) (calls : List Call) (call : Call) → Elapses (length calls) (length (calls ++ call ∷ [])) (LeftSince file calls) (LeftSince file (calls ++ call ∷ [])) (IsImageOf (state_of file (calls ++ call ∷ [])))
elapses_one file calls call =
    let all = calls ++ call ∷ [] in
    let n : length all ≡ length calls + 1 = length_push calls call in
    record {
      later = omega arith;
      nothing_else = λ t c le left.
          let P : List Call → Type 0 = λ kept. IsImageOf (state_of file kept) c in
          elim (within_or_next left.0 (length calls) (omega (arith, left.2))) [
            | inl within ↦ inl (left.0, left.1, within, subst P (take-append-le left.0 calls (call ∷ []) within) left.3)
            | inr next ↦ inr (subst P (take_all left.0 all (omega arith)) left.3)
          ];
      keeps = λ t c le past.
          let P : List Call → Type 0 = λ kept. IsImageOf (state_of file kept) c in
          (past.0, past.1, omega (arith, past.2), subst P (sym (take-append-le past.0 calls (call ∷ []) past.2)) past.3);
    }

pub elapses_by : (file : List ℕ) (calls : List Call) (call : Call) (calls' : List Call) → calls' ≡ calls ++ call ∷ [] → Elapses (length calls) (length calls') (LeftSince file calls) (LeftSince file calls') (IsImageOf (state_of file calls'))
elapses_by file calls call calls' is =
    let P : List Call → Type 0 = λ all. Elapses (length calls) (length all) (LeftSince file calls) (LeftSince file all) (IsImageOf (state_of file all)) in
    subst P (sym is) (elapses_one file calls call)

-- a call that is not kept
pub elapses_same : (file : List ℕ) (calls calls' : List Call) → calls' ≡ calls → Elapses (length calls) (length calls') (LeftSince file calls) (LeftSince file calls') (IsImageOf (state_of file calls'))
elapses_same file calls calls' is =
    let P : List Call → Type 0 = λ all. Elapses (length calls) (length all) (LeftSince file calls) (LeftSince file all) (IsImageOf (state_of file all)) in
    subst P (sym is) (record { later = omega arith; nothing_else = λ t c le left. inl left; keeps = λ t c le past. past })

after_calls-push : (calls : List Call) (s : State) (call : Call) → after_calls s (calls ++ call ∷ []) ≡ after_call (after_calls s calls) call
after_calls-push [] s call = refl
after_calls-push (c ∷ calls) s call = after_calls-push calls (after_call s c) call

-- the state one call further on in the record
pub state_more : (file : List ℕ) (calls : List Call) (i : ℕ) (d : Call) → i < length calls → state_of file (take (i + 1) calls) ≡ after_call (state_of file (take i calls)) (get_or calls i d)
state_more file calls i d lt = ap (state_of file) (take_more calls i d lt) ∙ after_calls-push (take i calls) (first_state file) (get_or calls i d)

-- the state once a call is kept
pub state_added : (file : List ℕ) (calls : List Call) (kind : CallKind) (bytes : List ℕ) (done : Bool) (calls' : List Call) → Adds calls kind bytes done calls' → state_of file calls' ≡ after_kind (state_of file calls) kind bytes done
state_added file calls kind bytes done calls' adds =
    let s = state_of file calls in
    let c = adds.call in
    ap (state_of file) adds.added ∙ after_calls-push calls (first_state file) c ∙ ap (λ k. after_kind s k c.bytes.items c.done) adds.of_kind
    ∙ ap₂ (λ b d. after_kind s kind b d) adds.of_bytes adds.as_done

-- a call that is no write settles nothing that is not an image already
still_image : (s : State) (kind : CallKind) (bytes : List ℕ) (done : Bool) (c : List ℕ) → IsStill kind → IsImageOf s s.seen → IsImageOf (after_kind s kind bytes done) c → IsImageOf s c
still_image s Size bytes done c still seen image = image
still_image s (Read at) bytes done c still seen image = image
still_image s (Write at) bytes done c still seen image = absurd still
still_image s Super bytes done c still seen image = absurd still
still_image s Sync bytes true c still seen image = let P : List ℕ → Type 0 = λ file. IsImageOf s file in subst P (sym image) seen
still_image s Sync bytes false c still seen image = image

-- no call that is no write changes what a read gives
pub still_seen : (s : State) (kind : CallKind) (bytes : List ℕ) (done : Bool) → IsStill kind → (after_kind s kind bytes done).seen ≡ s.seen
still_seen s Size bytes done still = refl
still_seen s (Read at) bytes done still = refl
still_seen s (Write at) bytes done still = absurd still
still_seen s Super bytes done still = absurd still
still_seen s Sync bytes true still = refl
still_seen s Sync bytes false still = refl

-- so the images after it are among those before
pub still_among : (file : List ℕ) (calls : List Call) (kind : CallKind) (bytes : List ℕ) (done : Bool) (calls' : List Call) → IsStill kind → Adds calls kind bytes done calls' → Among (IsImageOf (state_of file calls)) (IsImageOf (state_of file calls'))
still_among file calls kind bytes done calls' still adds c image =
    let s = state_of file calls in
    let P : State → Type 0 = λ t. IsImageOf t c in
    still_image s kind bytes done c still (seen_stays calls (first_state file) refl) (subst P (state_added file calls kind bytes done calls' adds) image)

-- the image with this fill and these heads is one
image_is : (settled : List ℕ) (steps : List Step) (fill : ℕ) (heads : Bool) → IsImage settled steps (image_from settled steps fill heads)
image_is settled [] fill heads = refl
image_is settled (torn at n ∷ older) fill heads =
    let was = image_from settled older fill heads in
    let P : ℕ → Type 0 = λ m. Torn at m was (splice_with fill was at (replicate n fill)) in
    (was, image_is settled older fill heads, subst P (length-replicate {A = ℕ} n fill) (torn-splice fill was at (replicate n fill)))
image_is settled (whole head ∷ older) fill true = (image_from settled older fill true, image_is settled older fill true, inr refl)
image_is settled (whole head ∷ older) fill false = (image_from settled older fill false, image_is settled older fill false, inl refl)

pub image_of_is : (s : State) (fill : ℕ) (heads : Bool) (c : List ℕ) → c ≡ image_of s fill heads → IsImageOf s c
image_of_is s fill heads c is = let P : List ℕ → Type 0 = λ file. IsImageOf s file in subst P (sym is) (image_is s.settled s.steps fill heads)

-- so a crash at that moment might have left it
pub left_then : (file : List ℕ) (calls : List Call) (k : ℕ) (c : List ℕ) → k ≤ length calls → IsImageOf (state_of file (take k calls)) c → LeftSince file calls k c
left_then file calls k c le image = (k, omega arith, le, image)
