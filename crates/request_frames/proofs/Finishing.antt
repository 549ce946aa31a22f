-- A session on a fresh link leaves it finished.
use Rattle.std.proofs.Common.{◌≡◌, ◌++◌, ℕ, List, [], length, refl, sym, ap, subst, ◌∙◌, arith}
use Rattle.srv_edge.specs.declared.failed.SessionEnd.{SessionEnd}
use Rattle.srv_edge.specs.declared.failed.SessionEnd.TheVariants.{Bye, Ended, CutShort, BadLength, ReadFault, WriteFault, TooLong}
use Rattle.srv_edge.specs.declared.limit.TheConstants.{SESSION_BYTES}
use Rattle.srv_edge.specs.declared.sink.Sink as sink
use Rattle.srv_edge.specs.declared.source.Source as source
use Rattle.srv_edge.specs.Count.{HasCause}
use Rattle.srv_edge.specs.Finished.{FinishesFresh, HasFailed, IsSent, StopsFor}
use Rattle.srv_edge.specs.Frames.{AreFrames, Tail, session_text}
use Rattle.request_frames.specs.declared.desk.Desk as desk
use Rattle.request_frames.specs.Serving.{Serves}
use Rattle.request_frames.specs.Session.{EndsAt, IsInputEnd, Sends}

-- where the frames stop that were given
stops_for : (end : SessionEnd) (tail : Tail) (given left : List ℕ) → EndsAt end tail (length given) SESSION_BYTES → (IsInputEnd end → left ≡ []) → StopsFor end tail given left
stops_for Bye tail given left at none = at
stops_for Ended tail given left at none = (at.0, none tt)
stops_for CutShort tail given left at none = (at.0, none tt)
stops_for BadLength tail given left at none = at
stops_for TooLong tail given left at none = at.1
stops_for ReadFault tail given left at none = tt
stops_for WriteFault tail given left at none = tt

-- a count that was 0 and rose
failed_by : (end : SessionEnd) (source source' sink sink' : ℕ) → source ≡ 0 → sink ≡ 0 → HasCause (end ≡ ReadFault) source source' → HasCause (end ≡ WriteFault) sink sink' → HasFailed end source' sink'
failed_by Bye source source' sink sink' none none' reads writes = tt
failed_by Ended source source' sink sink' none none' reads writes = tt
failed_by CutShort source source' sink sink' none none' reads writes = tt
failed_by BadLength source source' sink sink' none none' reads writes = tt
failed_by TooLong source source' sink sink' none none' reads writes = tt
failed_by ReadFault source source' sink sink' none none' reads writes = omega (arith, none, reads.rose refl)
failed_by WriteFault source source' sink sink' none none' reads writes = omega (arith, none', writes.rose refl)

-- what was sent
sent_by : (end : SessionEnd) (sent text : List ℕ) → Sends end sent text → IsSent end sent text
sent_by Bye sent text sends = sends
sent_by Ended sent text sends = sends
sent_by CutShort sent text sends = sends
sent_by BadLength sent text sends = sends
sent_by TooLong sent text sends = sends
sent_by ReadFault sent text sends = sends
sent_by WriteFault sent text sends = (sends.0, sends.1)

module _ {L K G : Type 0} (s : source.Ghosts L) (k : sink.Ghosts L) (d : desk.Ghosts K G) where
  pub finishes : (limit : ℕ) (link link' : L) (old new : K) (end : SessionEnd) → limit ≡ SESSION_BYTES → Serves s k d limit link link' old new end → FinishesFresh s k link end link'
  finishes limit link link' old new end is served fresh =
      let session = served.session in record {
        failed = failed_by end (s.faults link) (s.faults link') (k.faults link) (k.faults link') fresh.source fresh.sink served.reads served.writes;
        served = λ tells.
            let given : served.read ≡ s.given link' = sym ((served.came tells).0 ∙ ap (λ xs. xs ++ served.read) (fresh.given tells)) in
            let ends = subst (λ n. EndsAt end session.tail (length served.read) n) is session.ends in
            record {
              frames = session.frames;
              tail = session.tail;
              stream = subst (λ xs. AreFrames 1 xs session.frames session.tail) given session.stream;
              stops = stops_for end session.tail (s.given link') (s.left link') (subst (λ xs. EndsAt end session.tail (length xs) SESSION_BYTES) given ends) (λ ended. served.none_left ended tells);
              replies = λ told.
                  let taken : served.sent ≡ k.taken link' = sym (served.went told ∙ ap (λ xs. xs ++ served.sent) (fresh.taken told)) in
                  (session.replies, session.replied, subst (λ xs. IsSent end xs (session_text session.replies session.tail)) taken (sent_by end served.sent (session_text session.replies session.tail) session.sends));
            };
      }
