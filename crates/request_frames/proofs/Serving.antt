-- A session so far, and how it goes on and ends.
use Rattle.std.proofs.Common.{◌≡◌, ◌≤◌, ◌-◌, ◌++◌, ℕ, List, [], length, refl, sym, ap, inl, subst, ◌∙◌, arith, append_assoc}
use Rattle.std.proofs.lemmas.List.{append-nil}
use Rattle.srv_edge.specs.declared.failed.SessionEnd.{SessionEnd}
use Rattle.srv_edge.specs.declared.failed.SessionEnd.TheVariants.{ReadFault, WriteFault}
use Rattle.srv_edge.specs.declared.sink.Sink as sink
use Rattle.srv_edge.specs.declared.source.Source as source
use Rattle.srv_edge.specs.Count.{HasCause, Rose}
use Rattle.srv_edge.specs.Exchange.{CameFrom, WentTo}
use Rattle.srv_edge.specs.Frames.{IsVersion, frame_bytes, version_behind}
use Rattle.srv_edge.proofs.Exchanging.{cause_goes_on}
use Rattle.srv_edge.proofs.Versions.{is_version_behind}
use Rattle.request_frames.specs.declared.desk.Desk as desk
use Rattle.request_frames.specs.declared.serve.Turn.TheVariants.{GoesOn, Ends}
use Rattle.request_frames.specs.Session.{IsSession}
use Rattle.request_frames.specs.Serving.{EndsByInput, Serves, TakesTurn, answers_with}
use Rattle.request_frames.proofs.Counting.{counted, plain_session}
use Rattle.request_frames.proofs.Ends.{session_end}
use Rattle.request_frames.proofs.Turns.{turn_session}

-- a fault that did not come
still : (before mid now : ℕ) (P Q : Type 0) → (Q → P) → HasCause P mid now → before ≤ mid → HasCause ⊥ before mid → HasCause Q before now
still before mid now P Q less cause le so_far =
    let on = cause_goes_on before mid now so_far cause in record { never_falls = on.never_falls; rose = λ is. on.rose (less is) }

module _ {L K G : Type 0} (s : source.Ghosts L) (k : sink.Ghosts L) (d : desk.Ghosts K G) (limit : ℕ) (first : L) (start : K) where
  -- Turns so far, each of which was answered, and the version of what is next: whatever session follows is one from the start,
  -- behind what was read and sent.
  pub record SoFar (version budget : ℕ) (link : L) (mid : K) : Type 0 where
    pub is_version : IsVersion version
    pub read : List ℕ
    pub sent : List ℕ
    pub came : CameFrom s read first link
    pub went : WentTo k sent first link
    pub follows : (new : K) (r t : List ℕ) (end : SessionEnd) → IsSession (answers_with d) version budget mid new r t end → IsSession (answers_with d) 1 limit start new (read ++ r) (sent ++ t) end
    pub loans : s.loans link ≡ s.loans first
    pub reads : HasCause ⊥ (s.faults first) (s.faults link)
    pub writes : HasCause ⊥ (k.faults first) (k.faults link)

  -- before the first turn
  pub none_so_far : SoFar 1 limit first start
  none_so_far = record {
    is_version = inl refl;
    read = [];
    sent = [];
    came = λ tells. (sym (append-nil (s.given first)), refl);
    went = λ tells. sym (append-nil (k.taken first));
    follows = λ new r t end h. h;
    loans = refl;
    reads = record { never_falls = omega arith; rose = λ no. absurd no };
    writes = record { never_falls = omega arith; rose = λ no. absurd no };
  }

  module _ (version budget : ℕ) (link link' : L) (mid new : K) (frame : List ℕ) (so_far : SoFar version budget link mid) where
    came_on : CameFrom s frame link link' → CameFrom s (so_far.read ++ frame) first link'
    came_on more = λ tells. (
      (more tells).0 ∙ ap (λ xs. xs ++ frame) (so_far.came tells).0 ∙ append_assoc (s.given first) so_far.read frame,
      (so_far.came tells).1 ∙ ap (λ xs. so_far.read ++ xs) (more tells).1 ∙ sym (append_assoc so_far.read frame (s.left link')),
    )

    went_on : (text : List ℕ) → WentTo k text link link' → WentTo k (so_far.sent ++ text) first link'
    went_on text more = λ tells. more tells ∙ ap (λ xs. xs ++ text) (so_far.went tells) ∙ append_assoc (k.taken first) so_far.sent text

    -- one turn more
    pub goes_on : (next : ℕ) → TakesTurn s k d version budget frame link link' mid new (GoesOn next) → SoFar next (budget - length frame) link' new
    goes_on next turn =
        let one = turn.sent.1 in
        let behind : next ≡ version_behind one.0 = one.3.1 in
        record {
          is_version = subst IsVersion (sym behind) (is_version_behind version one.0 one.2);
          read = so_far.read ++ frame;
          sent = so_far.sent ++ turn.sent.0;
          came = came_on turn.came;
          went = went_on turn.sent.0 turn.sent.2;
          follows = λ last r t end h.
              let count : length frame ≡ length (frame_bytes one.0) = ap length one.5 in
              let h' = subst (λ v. IsSession (answers_with d) v (budget - length frame) new last r t end) behind h in
              let rest = turn_session (answers_with d) version budget mid new last one.0 one.1 r t end one.2 one.3.0 one.4 one.8
              (subst (λ xs. length xs ≤ budget) one.5 one.7) (subst (λ n. IsSession (answers_with d) (version_behind one.0) (budget - n) new last r t end) count h') in
              let read_is : so_far.read ++ (frame_bytes one.0 ++ r) ≡ so_far.read ++ frame ++ r = ap (λ xs. so_far.read ++ (xs ++ r)) (sym one.5) ∙ sym (append_assoc so_far.read frame r) in
              let sent_is : so_far.sent ++ (frame_bytes one.1 ++ t) ≡ so_far.sent ++ turn.sent.0 ++ t = ap (λ xs. so_far.sent ++ (xs ++ t)) (sym one.6) ∙ sym (append_assoc so_far.sent turn.sent.0 t) in
              subst (λ xs. IsSession (answers_with d) 1 limit start last (so_far.read ++ frame ++ r) xs end) sent_is
              (subst (λ xs. IsSession (answers_with d) 1 limit start last xs (so_far.sent ++ (frame_bytes one.1 ++ t)) end) read_is
              (so_far.follows last (frame_bytes one.0 ++ r) (frame_bytes one.1 ++ t) end rest));
          loans = turn.loans ∙ so_far.loans;
          reads = still (s.faults first) (s.faults link) (s.faults link') _ ⊥ (λ no. absurd no) turn.reads so_far.reads.never_falls so_far.reads;
          writes = still (k.faults first) (k.faults link) (k.faults link') _ ⊥ (λ no. absurd no) turn.writes so_far.writes.never_falls so_far.writes;
        }

    -- the last turn
    pub served : (end : SessionEnd) → TakesTurn s k d version budget frame link link' mid new (Ends end) → Serves s k d limit first link' start new end
    served end turn =
        let whole = so_far.follows new frame turn.sent.0 end turn.sent.1 in
        let beside = counted d.answers d.faults d.loans start new whole.frames whole.replies whole.talk in
        record {
          read = so_far.read ++ frame;
          sent = so_far.sent ++ turn.sent.0;
          session = plain_session d.answers d.faults d.loans whole;
          came = came_on turn.came;
          went = went_on turn.sent.0 turn.sent.2;
          none_left = turn.none_left;
          reads = still (s.faults first) (s.faults link) (s.faults link') _ (end ≡ ReadFault) (λ e. ap Ends e) turn.reads so_far.reads.never_falls so_far.reads;
          writes = still (k.faults first) (k.faults link) (k.faults link') _ (end ≡ WriteFault) (λ e. ap Ends e) turn.writes so_far.writes.never_falls so_far.writes;
          disk_faults_rose = beside.rose;
          desk_count = beside.count;
          link_loans = turn.loans ∙ so_far.loans;
          desk_loans = beside.same_loans;
        }

  -- the input alone says the end
  pub ends_by_input : (link' : L) (new : K) (end : SessionEnd) → Serves s k d limit first link' start new end
      → EndsByInput s.tells limit (s.left first) (Rose (s.faults first) (s.faults link')) (Rose (k.faults first) (k.faults link')) end
  ends_by_input link' new end served = λ tells no_read no_write frames tail are.
      session_end d.answers limit start new served.read served.sent (s.left first) (s.left link') end served.session (served.came tells).1
      (λ ended. served.none_left ended tells) (λ e. no_read (served.reads.rose e)) (λ e. no_write (served.writes.rose e)) frames tail are
