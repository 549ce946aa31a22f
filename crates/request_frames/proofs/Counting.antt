-- What a talk of a desk does beside its answers.
use Rattle.std.proofs.Common.{◌≡◌, ◌≤◌, ◌+◌, ℕ, Bool, true, false, IsTrue, List, [], ◌∷◌, length, if◌then◌else◌, refl, sym, ap, ◌∙◌, inl, inr, arith}
use Rattle.srv_edge.specs.declared.failed.SessionEnd.{SessionEnd}
use Rattle.srv_edge.specs.Count.{HasCause, RoseBy}
use Rattle.srv_edge.specs.Frames.{Frame, Message, refused}
use Rattle.request_frames.specs.Requests.{Asked}
use Rattle.request_frames.specs.Session.{IsSession}
use Rattle.request_frames.specs.Talk.{AnswersMessage, AnswersWith, IsTalk, disk_faults, is_disk_fault}

-- one reply more, of which it may be known that the count rose
rose_more : (fault : Bool) (n before mid now : ℕ) → HasCause (IsTrue fault) before mid → RoseBy n mid now → RoseBy ((if fault then 1 else 0) + n) before now
rose_more true n before mid now cause rose = omega (arith, cause.rose refl, rose)
rose_more false n before mid now cause rose = omega (arith, cause.never_falls, rose)

module _ {S : Type 0} (answers : S → Asked → Message → S → Type 0) (faults : S → ℕ) (loans : S → List ℕ) where
  -- what one frame does beside its answer
  record Stepped (old : S) (reply : Message) (new : S) : Type 0 where
    cause : HasCause (IsTrue (is_disk_fault reply)) (faults old) (faults new)
    same_loans : loans new ≡ loans old

  -- a refusal of what is no request
  still : (old : S) (reply : Message) (new : S) (code a : ℕ) → (code ≡ 8 → ⊥) → is_disk_fault (refused code a 0) ≡ false → reply ≡ refused code a 0 → new ≡ old → Stepped old reply new
  still old reply new code a other none is same = record {
    cause = record {
      never_falls = omega (arith, ap faults same);
      rose = λ fault. absurd (let no : true ≡ false = sym fault ∙ ap is_disk_fault is ∙ none in cc);
    };
    same_loans = ap loans same;
  }

  stepped : (version : ℕ) (old : S) (m reply : Message) (new : S) → AnswersMessage (AnswersWith answers faults loans) version old m reply new → Stepped old reply new
  stepped version old m reply new (inl answer) = record { cause = answer.3.cause; same_loans = answer.3.same_loans }
  stepped version old m reply new (inr (inl bad)) = still old reply new 2 m.kind (λ no. cc) refl bad.1 bad.2
  stepped version old m reply new (inr (inr bad)) = still old reply new 3 (length m.body) (λ no. cc) refl bad.1 bad.2

  -- what a talk does beside its answers
  pub record Counted (old : S) (replies : List Frame) (new : S) : Type 0 where
    pub rose : RoseBy (disk_faults replies) (faults old) (faults new)
    pub count : faults old ≤ faults new
    pub same_loans : loans new ≡ loans old

  pub counted : (old new : S) (frames replies : List Frame) → IsTalk (AnswersWith answers faults loans) old frames replies new → Counted old replies new
  counted old new [] [] same = record { rose = omega (arith, ap faults same); count = omega (arith, ap faults same); same_loans = ap loans same }
  counted old new [] (r ∷ replies) talk = absurd talk
  counted old new (f ∷ frames) [] talk = absurd talk
  counted old new (f ∷ frames) (r ∷ replies) talk =
      let one = stepped f.head.version old f.message r.message talk.0 talk.1.1 in
      let rest = counted talk.0 new frames replies talk.2 in
      record {
        rose = rose_more (is_disk_fault r.message) (disk_faults replies) (faults old) (faults talk.0) (faults new) one.cause rest.rose;
        count = omega (arith, one.cause.never_falls, rest.count);
        same_loans = rest.same_loans ∙ one.same_loans;
      }

  -- the answers alone
  plain_answer : (version : ℕ) (old : S) (m reply : Message) (new : S) → AnswersMessage (AnswersWith answers faults loans) version old m reply new → AnswersMessage answers version old m reply new
  plain_answer version old m reply new (inl answer) = inl (answer.0, answer.1, answer.2, answer.3.answered, answer.4)
  plain_answer version old m reply new (inr bad) = inr bad

  pub plain_talk : (old new : S) (frames replies : List Frame) → IsTalk (AnswersWith answers faults loans) old frames replies new → IsTalk answers old frames replies new
  plain_talk old new [] [] same = same
  plain_talk old new [] (r ∷ replies) talk = absurd talk
  plain_talk old new (f ∷ frames) [] talk = absurd talk
  plain_talk old new (f ∷ frames) (r ∷ replies) talk = (talk.0, (talk.1.0, plain_answer f.head.version old f.message r.message talk.0 talk.1.1), plain_talk talk.0 new frames replies talk.2)

  abbrev pub plain_session : {version limit : ℕ} {old new : S} {read sent : List ℕ} {end : SessionEnd} → IsSession (AnswersWith answers faults loans) version limit old new read sent end → IsSession answers version limit old new read sent end
  plain_session {version} {limit} {old} {new} s = record {
    frames = s.frames;
    tail = s.tail;
    replies = s.replies;
    stream = s.stream;
    no_more = s.no_more;
    bound = s.bound;
    talk = plain_talk old new s.frames s.replies s.talk;
    replied = s.replied;
    sends = s.sends;
    ends = s.ends;
  }
