use Rattle.std.proofs.Common.{◌≡◌, ◌≤◌, ◌+◌, ◌++◌, drop, length, take, sym, ap, subst, ◌∙◌, arith}
use Rattle.std.proofs.lemmas.List.{append-nil}
use Rattle.cow_streams.specs.Layout.{all_parts, laid, layout_of, layouts, parts_in, pieces}
use Rattle.cow_streams.specs.Planned.{writes_to}
use Rattle.cow_streams.proofs.LayoutLoops.{enough_streams, first_is, first_parts, laid_step, layouts_all, layouts_more, parts_more, writes_count, writes_step}
use Rattle.cow_streams.proofs.laying.lay_streams.Goals as goal

pub loop-i-init : goal.loop-i-init
loop-i-init c =
    let size = c.args.block_size in
    let edits = c.args.edits.now in
    let streams = c.args.streams.now in
    let writes = c.args.writes.now.items in
    let given = drop (length writes) c.args.given.now in
    record {
      streams = c.in_ok-all.ensures ∙ sym (first_is size edits streams given);
      writes = subst (λ ps. writes ≡ writes ++ writes_to (pieces ps) given) (sym (first_parts size edits streams)) (sym (append-nil writes));
    }

pub lay_one-requires-clause-enough : goal.lay_one-requires-clause-enough
lay_one-requires-clause-enough c =
    let size = c.args.block_size in
    let edits = c.args.edits.now in
    let streams = c.args.streams.now in
    let i = c.loop-i.i in
    let x = c.index-streams-i.result in
    let ps = all_parts (take i (layouts size edits streams)) in
    let count = writes_count ps (drop (length c.args.writes.now.items) c.args.given.now) c.args.writes.now.items c.loop-i.writes.items c.loop-i.invariant.writes in
    let more = enough_streams size edits streams i x c.loop-i.auto.i c.loop-i-test.true c.index-streams-i.is in
    let here : length c.loop-i.writes.items + length (pieces (parts_in (layout_of size edits i x))) ≤ length c.args.given.now = omega (arith, count, more, c.requires.enough) in
    here

pub loop-i-preserved : goal.loop-i-preserved
loop-i-preserved c =
    let size = c.args.block_size in
    let edits = c.args.edits.now in
    let streams = c.args.streams.now in
    let i = c.loop-i.i in
    let x = c.index-streams-i.result in
    let given = c.args.given.now in
    let old = c.args.writes.now.items in
    let w = length old in
    let n = length c.loop-i.writes.items in
    let ls = take i (layouts size edits streams) in
    let l = layout_of size edits i x in
    let now = c.loop-i.invariant in
    let count = writes_count (all_parts ls) (drop w given) old c.loop-i.writes.items now.writes in
    let next = sym (layouts_more size edits streams i x c.loop-i.auto.i c.loop-i-test.true c.index-streams-i.is) in
    record {
      streams = c.in_ok-push.ensures.items ∙ laid_step ls l given w n c.loop-i.all.items c.in_ok-stream.stream count now.streams c.in_ok-stream.ensures.stream ∙ ap (λ all. laid all (drop w given)) next;
      writes = writes_step (all_parts ls) (parts_in l) given w n old c.loop-i.writes.items c.lay_one.new.writes.items count now.writes c.in_ok-stream.ensures.writes
          ∙ ap (λ ps. old ++ writes_to (pieces ps) (drop w given)) (sym (parts_more ls l) ∙ ap all_parts next);
    }

pub returns-clause-streams : goal.returns-clause-streams
returns-clause-streams c =
    let given = drop (length c.args.writes.now.items) c.args.given.now in
    c.loop-i.invariant.streams ∙ ap (λ all. laid all given) (layouts_all c.args.block_size c.args.edits.now c.args.streams.now c.loop-i.i c.loop-i-test.false)

pub returns-clause-writes : goal.returns-clause-writes
returns-clause-writes c =
    let given = drop (length c.args.writes.now.items) c.args.given.now in
    c.loop-i.invariant.writes ∙ ap (λ all. c.args.writes.now.items ++ writes_to (pieces (all_parts all)) given) (layouts_all c.args.block_size c.args.edits.now c.args.streams.now c.loop-i.i c.loop-i-test.false)
