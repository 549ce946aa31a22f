use Rattle.std.proofs.Common.{◌+◌, [], refl, sym, ap, inl, inr, arith}
use Rattle.srv_edge.specs.Frames.{refused}
use Rattle.request_frames.specs.Requests.{asked, request_message}
use Rattle.session_pool.proofs.tests.CurtDesk.answer.Goals as goal

pub returns-in-Bye : goal.returns-in-Bye
returns-in-Bye c = record {
  reply = record { kind = 138; body = [] };
  spelled = c.write_frame.ensures;
  answered = record { answered = refl; same_loans = refl; cause = record { never_falls = omega arith; rose = λ no. cc } };
  of_kind = inl (ap (λ r. (request_message (asked r)).kind + 128) (sym c.in-Bye.is));
}

pub returns-in_default : goal.returns-in_default
returns-in_default c = record {
  reply = refused 7 0 0;
  spelled = c.write_refusal.ensures;
  answered = record { answered = refl; same_loans = refl; cause = record { never_falls = omega arith; rose = λ no. cc } };
  of_kind = inr refl;
}
