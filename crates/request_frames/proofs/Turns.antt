-- How a session grows by a turn.
use Rattle.std.proofs.Common.{◌≡◌, ◌≤◌, ◌<◌, ◌+◌, ◌-◌, ◌^◌, ◌⊎◌, ℕ, List, [], ◌∷◌, ◌++◌, length, refl, sym, ap, subst, ◌∙◌, inl, inr, ⊎_elim, arith, append_assoc, length-append}
use Rattle.std.proofs.lemmas.List.{append-nil}
use Rattle.srv_edge.specs.declared.failed.SessionEnd.{SessionEnd}
use Rattle.srv_edge.specs.declared.failed.SessionEnd.TheVariants.{Bye, Ended, CutShort, BadLength, ReadFault, WriteFault, TooLong}
use Rattle.srv_edge.specs.Frames.{AreFrames, Frame, IsBye, IsFrame, IsLength, IsPartFrame, Message, ReadsNoMore, Tail, at_bye, at_end, bad_length, cut_short, frame_bytes, length_of, refused_length, session_text, stream_of, tag_bytes, version_behind, word_bytes}
use Rattle.srv_edge.specs.Finished.{IsReply, IsReplyTo}
use Rattle.srv_edge.specs.declared.piece.TheConstants.{PIECE_BYTES}
use Rattle.srv_edge.proofs.Numbers.{length-word_bytes}
use Rattle.srv_edge.proofs.Streams.{frames_bye, length-tag_bytes}
use Rattle.request_frames.specs.Requests.{Asked}
use Rattle.request_frames.specs.Talk.{AnswersFrame, AnswersMessage}
use Rattle.request_frames.specs.Session.{EndsAt, IsSession, Sends}
use Rattle.request_frames.specs.Next.{Follows, IsLess, IsTurn}
use Rattle.request_frames.specs.declared.serve.Turn.{Turn}
use Rattle.request_frames.specs.declared.serve.Turn.TheVariants.{GoesOn, Ends}

-- where the stream stops behind one frame
abbrev pub tail_behind : Turn → Tail
tail_behind (GoesOn version) = at_end
tail_behind (Ends end) = at_bye

one_frame : (turn : Turn) (version : ℕ) (f : Frame) → IsFrame version f → Follows turn f → AreFrames version (frame_bytes f) (f ∷ []) (tail_behind turn)
one_frame (GoesOn next) version f is follows = (is, [], sym (append-nil (frame_bytes f)), inr (follows.0, refl))
one_frame (Ends end) version f is follows = frames_bye version f is follows.1

one_no_more : (turn : Turn) (f : Frame) → ReadsNoMore (frame_bytes f) (f ∷ []) (tail_behind turn)
one_no_more (GoesOn version) f = sym (append-nil (frame_bytes f))
one_no_more (Ends end) f = sym (append-nil (frame_bytes f))

one_text : (turn : Turn) (reply : Frame) → session_text (reply ∷ []) (tail_behind turn) ≡ frame_bytes reply
one_text (GoesOn version) reply = append-nil (frame_bytes reply)
one_text (Ends end) reply = append-nil (frame_bytes reply)

-- what is read behind a frame
more_read : (f : Frame) (read : List ℕ) (frames : List Frame) (tail : Tail) → ReadsNoMore read frames tail → ReadsNoMore (frame_bytes f ++ read) (f ∷ frames) tail
more_read f read frames at_end e = ap (λ xs. frame_bytes f ++ xs) e
more_read f read frames cut_short e = (e.0, ap (λ xs. frame_bytes f ++ xs) e.1 ∙ sym (append_assoc (frame_bytes f) (stream_of frames) e.0))
more_read f read frames (bad_length version n) e = ap (λ xs. frame_bytes f ++ xs) e ∙ sym (append_assoc (frame_bytes f) (stream_of frames) (word_bytes n))
more_read f read frames at_bye e = ap (λ xs. frame_bytes f ++ xs) e

-- a reply more in front
more_text : (reply : Frame) (replies : List Frame) (tail : Tail) → session_text (reply ∷ replies) tail ≡ frame_bytes reply ++ session_text replies tail
more_text reply replies at_end = refl
more_text reply replies cut_short = refl
more_text reply replies (bad_length version n) = append_assoc (frame_bytes reply) (stream_of replies) (frame_bytes (refused_length version n))
more_text reply replies at_bye = refl

more_sent : (end : SessionEnd) (front sent text all : List ℕ) → all ≡ front ++ text → Sends end sent text → Sends end (front ++ sent) all
more_sent Bye front sent text all e s = ap (λ xs. front ++ xs) s ∙ sym e
more_sent Ended front sent text all e s = ap (λ xs. front ++ xs) s ∙ sym e
more_sent CutShort front sent text all e s = ap (λ xs. front ++ xs) s ∙ sym e
more_sent BadLength front sent text all e s = ap (λ xs. front ++ xs) s ∙ sym e
more_sent TooLong front sent text all e s = ap (λ xs. front ++ xs) s ∙ sym e
more_sent ReadFault front sent text all e s = ap (λ xs. front ++ xs) s ∙ sym e
more_sent WriteFault front sent text all e s = (s.0, e ∙ ap (λ xs. front ++ xs) s.1 ∙ sym (append_assoc front sent s.0), s.2)

-- so many bytes more in front, and a limit so much greater
more_ends : (end : SessionEnd) (tail : Tail) (n count limit : ℕ) → n ≤ limit → EndsAt end tail count (limit - n) → EndsAt end tail (n + count) limit
more_ends Bye tail n count limit le e = e
more_ends Ended tail n count limit le e = (e.0, omega (arith, le, e.1))
more_ends CutShort tail n count limit le e = (e.0, omega (arith, le, e.1))
more_ends BadLength tail n count limit le e = e
more_ends TooLong tail n count limit le e = (e.0, omega (arith, le, e.1))
more_ends ReadFault tail n count limit le e = (e.0, omega (arith, le, e.1))
more_ends WriteFault tail n count limit le e = tt

refused_ends : (end : SessionEnd) (version n count limit : ℕ) → (end ≡ WriteFault) ⊎ (end ≡ BadLength) → EndsAt end (bad_length version n) count limit
refused_ends Bye version n count limit e = absurd (⊎_elim (λ x. cc) (λ x. cc) e)
refused_ends Ended version n count limit e = absurd (⊎_elim (λ x. cc) (λ x. cc) e)
refused_ends CutShort version n count limit e = absurd (⊎_elim (λ x. cc) (λ x. cc) e)
refused_ends BadLength version n count limit e = (version, n, refl)
refused_ends TooLong version n count limit e = absurd (⊎_elim (λ x. cc) (λ x. cc) e)
refused_ends ReadFault version n count limit e = absurd (⊎_elim (λ x. cc) (λ x. cc) e)
refused_ends WriteFault version n count limit e = tt

-- a frame is its length and what that says
length-frame_bytes : (f : Frame) → length (frame_bytes f) ≡ 4 + length_of f
length-frame_bytes f = omega (
  arith,
  length-append (word_bytes (length_of f)) (f.message.kind ∷ (tag_bytes f.head ++ f.message.body)),
  length-word_bytes (length_of f),
  length-append (tag_bytes f.head) f.message.body,
  length-tag_bytes f.head,
)

module _ {S : Type 0} (answers : S → Asked → Message → S → Type 0) where
  -- an answer has the kind that its frame asks for, or it is a refusal
  answer_kind : (version : ℕ) (old new : S) (m reply : Message) → AnswersMessage answers version old m reply new → IsReplyTo m reply
  answer_kind version old new m reply (inl answer) = answer.4
  answer_kind version old new m reply (inr (inl bad)) = inr (ap (λ r. r.kind) bad.1)
  answer_kind version old new m reply (inr (inr bad)) = inr (ap (λ r. r.kind) bad.1)

  -- what answers a frame and fits a piece is its reply
  pub answer_is_reply : (old new : S) (f reply : Frame) → AnswersFrame answers old f reply new → length (frame_bytes reply) ≤ PIECE_BYTES → IsReply f reply
  answer_is_reply old new f reply answered short = record {
    same_head = answered.0;
    of_kind = answer_kind f.head.version old new f.message reply.message answered.1;
    fits = omega (arith, short, length-frame_bytes reply);
  }

  -- a session of one frame, of which the whole reply was sent: a Bye
  pub bye_session : (version limit : ℕ) (old new : S) (f reply : Frame) → IsFrame version f → IsBye f → AnswersFrame answers old f reply new → IsReply f reply → length (frame_bytes f) ≤ limit
      → IsSession answers version limit old new (frame_bytes f) (frame_bytes reply) Bye
  bye_session version limit old new f reply is bye answered is_reply le = record {
    frames = f ∷ [];
    tail = at_bye;
    replies = reply ∷ [];
    stream = frames_bye version f is bye;
    no_more = sym (append-nil (frame_bytes f));
    bound = le;
    talk = (new, answered, refl);
    replied = (is_reply, tt);
    sends = sym (append-nil (frame_bytes reply));
    ends = refl;
  }

  -- a session of one frame, of which a part of the reply was sent
  pub fault_session : (turn : Turn) (version limit : ℕ) (old new : S) (f reply : Frame) (sent more : List ℕ) → IsFrame version f → Follows turn f
      → AnswersFrame answers old f reply new → IsReply f reply → length (frame_bytes f) ≤ limit → frame_bytes reply ≡ sent ++ more → 0 < length more
      → IsSession answers version limit old new (frame_bytes f) sent WriteFault
  fault_session turn version limit old new f reply sent more is follows answered is_reply le part some = record {
    frames = f ∷ [];
    tail = tail_behind turn;
    replies = reply ∷ [];
    stream = one_frame turn version f is follows;
    no_more = one_no_more turn f;
    bound = le;
    talk = (new, answered, refl);
    replied = (is_reply, tt);
    sends = (more, one_text turn reply ∙ part, some);
    ends = tt;
  }

  -- a frame was answered, and the whole reply was sent
  pub answered_turn : (turn : Turn) (version limit : ℕ) (old new : S) (f reply : Frame) (read : List ℕ) → IsFrame version f → Follows turn f
      → AnswersFrame answers old f reply new → IsReply f reply → frame_bytes f ≡ read → length read ≤ limit → IsTurn answers version limit old new read (frame_bytes reply) turn
  answered_turn (GoesOn next) version limit old new f reply read is follows answered is_reply spelled le = (f, reply, is, follows, answered, sym spelled, refl, le, is_reply)
  answered_turn (Ends end) version limit old new f reply read is follows answered is_reply spelled le =
      subst (λ e. IsSession answers version limit old new read (frame_bytes reply) e) (sym follows.0)
      (subst (λ xs. IsSession answers version limit old new xs (frame_bytes reply) Bye) spelled
      (bye_session version limit old new f reply is follows.1 answered is_reply (subst (λ xs. length xs ≤ limit) (sym spelled) le)))

  -- a session behind one more turn
  pub turn_session : (version limit : ℕ) (old mid new : S) (f reply : Frame) (read sent : List ℕ) (end : SessionEnd) → IsFrame version f → ¬ IsBye f
      → AnswersFrame answers old f reply mid → IsReply f reply → length (frame_bytes f) ≤ limit
      → IsSession answers (version_behind f) (limit - length (frame_bytes f)) mid new read sent end
      → IsSession answers version limit old new (frame_bytes f ++ read) (frame_bytes reply ++ sent) end
  turn_session version limit old mid new f reply read sent end is goes answered is_reply le s =
      let count : length (frame_bytes f ++ read) ≡ length (frame_bytes f) + length read = length-append (frame_bytes f) read in
      record {
        frames = f ∷ s.frames;
        tail = s.tail;
        replies = reply ∷ s.replies;
        stream = (is, read, refl, inr (goes, s.stream));
        no_more = more_read f read s.frames s.tail s.no_more;
        bound = omega (arith, count, le, s.bound);
        talk = (mid, answered, s.talk);
        replied = (is_reply, s.replied);
        sends = more_sent end (frame_bytes reply) sent (session_text s.replies s.tail) (session_text (reply ∷ s.replies) s.tail) (more_text reply s.replies s.tail) s.sends;
        ends = rw count (more_ends end s.tail (length (frame_bytes f)) (length read) limit le s.ends);
      }

  -- a session that read no whole frame: the input ended
  pub ended_session : (version limit : ℕ) (desk : S) (read : List ℕ) → read ≡ [] → 0 < limit → IsSession answers version limit desk desk read [] Ended
  ended_session version limit desk read none some = record {
    frames = [];
    tail = at_end;
    replies = [];
    stream = none;
    no_more = none;
    bound = omega (arith, ap length none, some);
    talk = refl;
    replied = tt;
    sends = refl;
    ends = (refl, omega (arith, ap length none, some));
  }

  -- the input ended within a frame
  pub cut_session : (version limit : ℕ) (desk : S) (read : List ℕ) → IsPartFrame version read → length read < limit → IsSession answers version limit desk desk read [] CutShort
  cut_session version limit desk read cut lt = record {
    frames = [];
    tail = cut_short;
    replies = [];
    stream = cut;
    no_more = (read, refl);
    bound = omega (arith, lt);
    talk = refl;
    replied = tt;
    sends = refl;
    ends = (refl, lt);
  }

  -- the limit was reached, or the source failed
  pub long_session : (version limit : ℕ) (desk : S) (read : List ℕ) → IsLess version read → length read ≡ limit → IsSession answers version limit desk desk read [] TooLong
  long_session version limit desk read less is = ⊎_elim
      (λ none. record {
        frames = [];
        tail = at_end;
        replies = [];
        stream = none;
        no_more = none;
        bound = omega (arith, is);
        talk = refl;
        replied = tt;
        sends = refl;
        ends = (inl refl, is);
      })
      (λ cut. record {
        frames = [];
        tail = cut_short;
        replies = [];
        stream = cut;
        no_more = (read, refl);
        bound = omega (arith, is);
        talk = refl;
        replied = tt;
        sends = refl;
        ends = (inr refl, is);
      })
      less

  pub failed_session : (version limit : ℕ) (desk : S) (read : List ℕ) → IsLess version read → length read < limit → IsSession answers version limit desk desk read [] ReadFault
  failed_session version limit desk read less lt = ⊎_elim
      (λ none. record {
        frames = [];
        tail = at_end;
        replies = [];
        stream = none;
        no_more = none;
        bound = omega (arith, lt);
        talk = refl;
        replied = tt;
        sends = refl;
        ends = (inl refl, lt);
      })
      (λ cut. record {
        frames = [];
        tail = cut_short;
        replies = [];
        stream = cut;
        no_more = (read, refl);
        bound = omega (arith, lt);
        talk = refl;
        replied = tt;
        sends = refl;
        ends = (inr refl, lt);
      })
      less

  -- a bad length was refused
  pub refused_session : (end : SessionEnd) (version limit : ℕ) (desk : S) (n : ℕ) (read sent : List ℕ) → read ≡ word_bytes n → ¬ IsLength version n → n < 2 ^ 32 → length read ≤ limit
      → (end ≡ WriteFault) ⊎ (end ≡ BadLength) → Sends end sent (frame_bytes (refused_length version n)) → IsSession answers version limit desk desk read sent end
  refused_session end version limit desk n read sent is bad fits le ends sends = record {
    frames = [];
    tail = bad_length version n;
    replies = [];
    stream = (refl, [], is ∙ sym (append-nil (word_bytes n)), fits, bad);
    no_more = is;
    bound = le;
    talk = refl;
    replied = tt;
    sends = sends;
    ends = refused_ends end version n (length read) limit ends;
  }
