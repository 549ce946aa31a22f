-- One turn on a link, by the calls that make it.
use Rattle.std.proofs.Common.{◌≡◌, ◌≢◌, ◌++◌, ◌⊎◌, ℕ, IsTrue, List, [], sym, ap, ◌∙◌, inl, inr, ⊎_elim, arith}
use Rattle.std.proofs.lemmas.List.{append-nil}
use Rattle.srv_edge.specs.declared.failed.SessionEnd.{SessionEnd}
use Rattle.srv_edge.specs.declared.failed.SessionEnd.TheVariants.{Bye, Ended, CutShort, BadLength, ReadFault, WriteFault, TooLong}
use Rattle.srv_edge.specs.declared.sink.Sink as sink
use Rattle.srv_edge.specs.declared.source.Source as source
use Rattle.srv_edge.specs.Exchange.{CallsSink, CallsSource, CameFrom}
use Rattle.request_frames.specs.declared.desk.Desk as desk
use Rattle.request_frames.specs.declared.serve.Turn.{Turn}
use Rattle.request_frames.specs.declared.serve.Turn.TheVariants.{GoesOn, Ends}
use Rattle.request_frames.specs.Next.{EndsInput, IsAnswered}
use Rattle.request_frames.specs.Session.{IsInputEnd, IsSession}
use Rattle.request_frames.specs.Serving.{SendsTurn, TakesTurn, answers_with}

-- an answered frame is no end of the input, and no fault of the source
no_end : (turn : Turn) → IsAnswered turn → EndsInput turn → ⊥
no_end (GoesOn version) is ends = ends
no_end (Ends Bye) is ends = ends
no_end (Ends Ended) is ends = is
no_end (Ends CutShort) is ends = is
no_end (Ends BadLength) is ends = is
no_end (Ends ReadFault) is ends = is
no_end (Ends WriteFault) is ends = ends
no_end (Ends TooLong) is ends = is

no_read_fault : (turn : Turn) → IsAnswered turn → turn ≡ Ends ReadFault → ⊥
no_read_fault (GoesOn version) is e = cc
no_read_fault (Ends Bye) is e = cc
no_read_fault (Ends Ended) is e = is
no_read_fault (Ends CutShort) is e = is
no_read_fault (Ends BadLength) is e = is
no_read_fault (Ends ReadFault) is e = is
no_read_fault (Ends WriteFault) is e = cc
no_read_fault (Ends TooLong) is e = is

ends_so : {end end' : SessionEnd} → Ends end ≡ Ends end' → end ≡ end'
ends_so {end} {end'} e = cc

-- a refusal of a length
refusal_no_read : {end : SessionEnd} → (end ≡ WriteFault) ⊎ (end ≡ BadLength) → end ≡ ReadFault → ⊥
refusal_no_read {end} (inl e) is = cc
refusal_no_read {end} (inr e) is = cc

refusal_no_end : (end : SessionEnd) → (end ≡ WriteFault) ⊎ (end ≡ BadLength) → IsInputEnd end → ⊥
refusal_no_end Bye e is = is
refusal_no_end Ended e is = ⊎_elim (λ x. cc) (λ x. cc) e
refusal_no_end CutShort e is = ⊎_elim (λ x. cc) (λ x. cc) e
refusal_no_end BadLength e is = is
refusal_no_end ReadFault e is = is
refusal_no_end WriteFault e is = is
refusal_no_end TooLong e is = is

module _ {L K G : Type 0} (s : source.Ghosts L) (k : sink.Ghosts L) (d : desk.Ghosts K G)
    (taken_is : (l : L) → (s.beside l).bytes ≡ k.taken l) (sink_faults_is : (l : L) → (s.beside l).faults ≡ k.faults l) where
  -- what a read leaves of the link as a sink
  kept : {P : Type 0} {link link' : L} → CallsSource s P link link' → k.taken link' ≡ k.taken link
  kept {P} {link} {link'} calls = sym (taken_is link') ∙ ap (λ t. t.bytes) calls.beside ∙ taken_is link

  kept_faults : {P : Type 0} {link link' : L} → CallsSource s P link link' → k.faults link' ≡ k.faults link
  kept_faults {P} {link} {link'} calls = sym (sink_faults_is link') ∙ ap (λ t. t.faults) calls.beside ∙ sink_faults_is link

  -- the session ended with what was read
  pub read_turn : {P : Type 0} {version limit : ℕ} {link link' : L} {desk : K} {frame : List ℕ} (end : SessionEnd) → CallsSource s P link link' → CameFrom s frame link link'
      → IsSession (answers_with d) version limit desk desk frame [] end → (IsInputEnd end → IsTrue s.tells → s.left link' ≡ []) → (end ≡ ReadFault → P) → end ≢ WriteFault
      → TakesTurn s k d version limit frame link link' desk desk (Ends end)
  read_turn {P} {version} {limit} {link} {link'} {desk} {frame} end calls came session none read no_write = record {
    sent = ([], session, λ tells. kept calls ∙ sym (append-nil (k.taken link)));
    came = came;
    none_left = none;
    loans = calls.loans;
    reads = record { never_falls = calls.cause.never_falls; rose = λ e. calls.cause.rose (read (ends_so e)) };
    writes = record { never_falls = omega (arith, kept_faults calls); rose = λ e. absurd (no_write (ends_so e)) };
  }

  module _ (given_is : (l : L) → (k.beside l).bytes ≡ s.given l) (left_is : (l : L) → (k.beside l).rest ≡ s.left l)
      (source_faults_is : (l : L) → (k.beside l).faults ≡ s.faults l) (loans_are : (l : L) → k.loans l ≡ s.loans l) where
    -- something was sent behind what was read
    pub sent_turn : {P Q : Type 0} {version limit : ℕ} {link mid link' : L} {old new : K} {frame : List ℕ} (turn : Turn) → CallsSource s P link mid → CameFrom s frame link mid
        → CallsSink k Q mid link' → SendsTurn k d version limit frame mid link' old new turn → (EndsInput turn → ⊥) → (turn ≡ Ends ReadFault → ⊥) → (turn ≡ Ends WriteFault → Q)
        → TakesTurn s k d version limit frame link link' old new turn
    sent_turn {P} {Q} {version} {limit} {link} {mid} {link'} {old} {new} {frame} turn calls came gives sends no_end no_read write =
        let given : s.given link' ≡ s.given mid = sym (given_is link') ∙ ap (λ t. t.bytes) gives.beside ∙ given_is mid in
        let left : s.left link' ≡ s.left mid = sym (left_is link') ∙ ap (λ t. t.rest) gives.beside ∙ left_is mid in
        let faults : s.faults link' ≡ s.faults mid = sym (source_faults_is link') ∙ ap (λ t. t.faults) gives.beside ∙ source_faults_is mid in
        let before : k.faults mid ≡ k.faults link = kept_faults calls in
        record {
          sent = (sends.0, sends.1, λ tells. sends.2 tells ∙ ap (λ xs. xs ++ sends.0) (kept calls));
          came = λ tells. (given ∙ (came tells).0, (came tells).1 ∙ ap (λ xs. frame ++ xs) (sym left));
          none_left = λ ends. absurd (no_end ends);
          loans = sym (loans_are link') ∙ gives.loans ∙ loans_are mid ∙ calls.loans;
          reads = record { never_falls = omega (arith, faults, calls.cause.never_falls); rose = λ e. absurd (no_read e) };
          writes = record { never_falls = omega (arith, before, gives.cause.never_falls); rose = λ e. omega (arith, before, gives.cause.rose (write e)) };
        }

    -- a frame was answered
    pub answered_turn : {P : Type 0} {version limit : ℕ} {link mid link' : L} {old new : K} {frame : List ℕ} (turn : Turn) → CallsSource s P link mid → CameFrom s frame link mid
        → CallsSink k (turn ≡ Ends WriteFault) mid link' → SendsTurn k d version limit frame mid link' old new turn → IsAnswered turn
        → TakesTurn s k d version limit frame link link' old new turn
    answered_turn turn calls came gives sends answered = sent_turn turn calls came gives sends (no_end turn answered) (no_read_fault turn answered) (λ e. e)

    -- a bad length was refused
    pub refused_turn : {P : Type 0} {version limit : ℕ} {link mid link' : L} {desk : K} {frame : List ℕ} (end : SessionEnd) → CallsSource s P link mid → CameFrom s frame link mid
        → CallsSink k (end ≡ WriteFault) mid link' → SendsTurn k d version limit frame mid link' desk desk (Ends end) → (end ≡ WriteFault) ⊎ (end ≡ BadLength)
        → TakesTurn s k d version limit frame link link' desk desk (Ends end)
    refused_turn end calls came gives sends ends =
        sent_turn (Ends end) calls came gives sends (refusal_no_end end ends) (λ e. refusal_no_read ends (ends_so e)) (λ e. ends_so e)
