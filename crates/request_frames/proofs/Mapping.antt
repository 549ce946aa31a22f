-- A desk's talk as the talk of another, whose states stand for its own.
use Rattle.std.proofs.Common.{◌≡◌, ◌⊎◌, inl, inr, ℕ, List, [], ◌∷◌, refl, sym, subst}
use Rattle.srv_edge.specs.declared.failed.SessionEnd.{SessionEnd}
use Rattle.srv_edge.specs.Frames.{Frame, Message}
use Rattle.request_frames.specs.Requests.{Asked, IsAsked}
use Rattle.request_frames.specs.Session.{IsSession}
use Rattle.request_frames.specs.Talk.{AnswersFrame, AnswersMessage, IsTalk}

-- Each answer of a desk, from a state for which one of the other stands, is an answer of the other from that one, and the
-- state that it leaves stands for the desk's new state.
abbrev pub Simulates : {S T : Type 0} → (S → Asked → Message → S → Type 0) → (T → Asked → Message → T → Type 0) → (S → T → Type 0) → Type 0
Simulates {S} {T} answers answers' stands =
    (version : ℕ) (old new : S) (t : T) (a : Asked) (reply : Message) → IsAsked version a → stands old t → answers old a reply new → (t' : T) × stands new t' × answers' t a reply t'

module _ {S T : Type 0} (answers : S → Asked → Message → S → Type 0) (answers' : T → Asked → Message → T → Type 0) (stands : S → T → Type 0) (simulates : Simulates answers answers' stands) where
  -- a message that is no request leaves the desk, so the other stays too
  message_follows : (version : ℕ) (old new : S) (t : T) (m reply : Message) → stands old t → AnswersMessage answers version old m reply new → (t' : T) × stands new t' × AnswersMessage answers' version t m reply t'
  message_follows version old new t m reply there (inl by_desk) =
      let next = simulates version old new t by_desk.0 reply by_desk.2 there by_desk.3 in (next.0, next.1, inl (by_desk.0, by_desk.1, by_desk.2, next.2, by_desk.4))
  message_follows version old new t m reply there (inr (inl bad_kind)) =
      (t, subst (λ s. stands s t) (sym bad_kind.2) there, inr (inl (bad_kind.0, bad_kind.1, refl)))
  message_follows version old new t m reply there (inr (inr bad_body)) =
      (t, subst (λ s. stands s t) (sym bad_body.2) there, inr (inr (bad_body.0, bad_body.1, refl)))

  -- The talk of a desk is one of the other.
  pub talk_follows : (old new : S) (t : T) (frames replies : List Frame) → stands old t → IsTalk answers old frames replies new → (t' : T) × stands new t' × IsTalk answers' t frames replies t'
  talk_follows old new t [] [] there talk = (t, subst (λ s. stands s t) (sym talk) there, refl)
  talk_follows old new t (f ∷ frames) (r ∷ replies) there talk =
      let one = message_follows f.head.version old talk.0 t f.message r.message there talk.1.1 in
      let rest = talk_follows talk.0 new one.0 frames replies one.1 talk.2 in
      (rest.0, rest.1, (one.0, (talk.1.0, one.2), rest.2))
  talk_follows old new t [] (r ∷ replies) there talk = absurd talk
  talk_follows old new t (f ∷ frames) [] there talk = absurd talk

-- A session of a desk, with a talk of another in the place of its own.
abbrev pub with_talk : {S T : Type 0} {answers : S → Asked → Message → S → Type 0} {version limit : ℕ} {old new : S} {read sent : List ℕ} {end : SessionEnd} (answers' : T → Asked → Message → T → Type 0) (t t' : T)
    → (s : IsSession answers version limit old new read sent end) → IsTalk answers' t s.frames s.replies t' → IsSession answers' version limit t t' read sent end
with_talk answers' t t' s talk = record {
  frames = s.frames;
  tail = s.tail;
  replies = s.replies;
  stream = s.stream;
  no_more = s.no_more;
  bound = s.bound;
  talk = talk;
  replied = s.replied;
  sends = s.sends;
  ends = s.ends;
}
