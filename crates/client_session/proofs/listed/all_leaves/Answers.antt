use Rattle.std.proofs.Common.{drop, arith, rules}
use Rattle.std.specs.Prelude.{IsOk}
use Rattle.leaf_grammar.specs.Leaf.{leaf_of}
use Rattle.request_frames.proofs.Listing.{record_within, some_bytes}
use Rattle.client_session.proofs.Leaves.{leaves_more_at, leaves_none}
use Rattle.client_session.proofs.listed.all_leaves.Goals as goal

pub loop-record-smaller : goal.loop-record-smaller
loop-record-smaller c =
    let begins = c.in-Some.ensures.record in
    omega (arith, record_within c.args.list.now c.loop-record.at c.in-Some.record.now c.loop-record.invariant.0 begins, some_bytes c.in-Some.record.now begins.listed)

pub loop-record-preserved : goal.loop-record-preserved
loop-record-preserved c =
    let begins = c.in-Some.ensures.record in
    let r = c.in-Some.record.now in
    let leaf : IsOk (leaf_of c.args.space r) = search rules in (
      record_within c.args.list.now c.loop-record.at r c.loop-record.invariant.0 begins,
      λ rest. c.loop-record.invariant.1 (leaves_more_at c.args.space c.args.list.now c.loop-record.at r begins leaf rest),
    )

pub returns : goal.returns
returns c = λ _. c.loop-record.invariant.1 (leaves_none c.args.space (drop c.loop-record.at c.args.list.now) (c.next_record.ensures.none c.in_default.is))
