use Rattle.std.proofs.Common.{◌∷◌, ◌++◌, [], length, drop, ap, arith, length-append}
use Rattle.std.proofs.lemmas.List.{length-drop}
use Rattle.request_frames.specs.Lists.{BeginsWith}
use Rattle.request_frames.proofs.Listing.{all_cut, cut_more, cut_within, record_within, some_bytes}
use Rattle.request_frames.proofs.list.read_list.Goals.{then-at-body-via-then-at-body, then-at-body-via-else-at-body+then-count-eq0, then-at-body-via-else-at-body+else-count-eq0+then-count}
use Rattle.request_frames.proofs.list.read_list.Goals as goal

-- the record at the place
begins : (c : goal.In-Some) → BeginsWith (drop c.loop-record.at c.args.body.now) c.in-Some.record.now
begins c = c.in-Some.ensures.record

pub overflow_add-count : goal.overflow_add-count
overflow_add-count c =
    let cut = c.loop-record.invariant in
    let within = cut_within c.args.body.now c.loop-record.at cut.0 cut.1 in
    record { fits = omega (arith, c.loop-record.auto.at-fits.fits, within.few, cut.2) }

pub loop-record-smaller : goal.loop-record-smaller
loop-record-smaller c =
    let cut = c.loop-record.invariant in
    let within = cut_within c.args.body.now c.loop-record.at cut.0 cut.1 in
    let fits = record_within c.args.body.now c.loop-record.at c.in-Some.record.now within.within (begins c) in
    omega (arith, fits, some_bytes c.in-Some.record.now (begins c).listed)

pub loop-record-preserved : goal.loop-record-preserved
loop-record-preserved c =
    let cut = c.loop-record.invariant in
    let done = cut.0 in
    let r = c.in-Some.record.now in (
      done ++ r ∷ [],
      cut_more c.args.body.now c.loop-record.at done r cut.1 (begins c),
      omega (arith, cut.2, length-append done (r ∷ [])),
    )

-- a list is cut whole, into as many records as were counted
pub returns-then-at-body-clause-bad : goal.returns-then-at-body-clause-bad
returns-then-at-body-clause-bad c = λ list.
    let cut = c.loop-record.invariant in
    let at = c.loop-record.at in
    let all = all_cut c.args.body.now at cut.0 list.0 cut.1 (c.next_record.ensures.none c.in_default.is) list.1 in
    let count = ap length all.same in
    let nothing = ap length all.none in
    elim c.then-at-body.branch [
      | then-at-body-via-then-at-body w ↦ omega (arith, w.if-at-body.true, nothing, length-drop at c.args.body.now)
      | then-at-body-via-else-at-body+then-count-eq0 w ↦ omega (arith, w.if-count-eq0.true, count, cut.2, list.1.some)
      | then-at-body-via-else-at-body+else-count-eq0+then-count w ↦ omega (arith, w.if-count.true, count, cut.2, list.1.few)
    ]
