use Rattle.std.proofs.Common.{length, ap, arith, length-append}
use Rattle.request_frames.proofs.Listing.{begins, front, some_bytes}
use Rattle.request_frames.proofs.list.first_record.Goals as goal

pub returns-then-rest-lt2-clause-none : goal.returns-then-rest-lt2-clause-none
returns-then-rest-lt2-clause-none c = λ _ r more is e. omega (arith, c.if-rest-lt2.true, ap length e, length-append r more, some_bytes r is)

pub returns-then-rest-end-clause-none : goal.returns-then-rest-end-clause-none
returns-then-rest-end-clause-none c = λ _ r more is e.
    omega (arith, c.if-rest-end.true, c.from-end.ensures, begins c.args.rest.now r more c.half_at.result c.half_at.ensures c.half_at.type_inv is e)

pub returns-clause-record : goal.returns-clause-record
returns-clause-record c = rw c.from-end.ensures (front c.args.rest.now c.half_at.result c.half_at.ensures c.half_at.type_inv (omega (arith, c.if-rest-end.false, c.from-end.ensures)))
