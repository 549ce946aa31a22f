use Rattle.std.proofs.Common.{◌+◌, ◌∷◌, ◌++◌, ℕ, List, [], length, sym, ap, subst, ◌∙◌, arith, length-append}
use Rattle.srv_edge.specs.declared.head.Head.{Head}
use Rattle.srv_edge.specs.declared.kind.TheConstants as kinds
use Rattle.srv_edge.specs.Frames.{Frame, frame_bytes}
use Rattle.request_frames.proofs.Framing.{length-frame_bytes, small_tag}
use Rattle.request_frames.proofs.Listing.{all_cut, cut_fewer, cut_more, cut_within, record_within, some_bytes}
use Rattle.client_session.specs.Sharing.{AddsEachBy}
use Rattle.client_session.specs.Tables.{kind_of_list, part_of}
use Rattle.client_session.proofs.Listing.{each_more_by}
use Rattle.client_session.proofs.Lists.{length-part}
use Rattle.client_session.proofs.listed.add_each.Goals as goal

-- the reply with these parts
abbrev reply_with : Head → ℕ → List ℕ → Frame
reply_with head kind parts = record { head = head; message = record { kind = kind + kinds.REPLY; body = parts } }

pub push_part-requires-clause-some : goal.push_part-requires-clause-some
push_part-requires-clause-some g c =
    let so_far = c.loop-record.invariant in
    omega (arith, ap length so_far.spelled, length-frame_bytes (reply_with c.args.head (kind_of_list c.args.space) so_far.parts))

pub push_part-requires-clause-fits : goal.push_part-requires-clause-fits
push_part-requires-clause-fits g c =
    let so_far = c.loop-record.invariant in
    let list = c.requires.list in
    let less = cut_fewer c.args.list.now c.loop-record.at so_far.done list.0 c.in-Some.record.now so_far.cut list.1 c.in-Some.ensures.record in
    omega (
      arith,
      ap length so_far.spelled,
      length-frame_bytes (reply_with c.args.head (kind_of_list c.args.space) so_far.parts),
      so_far.size,
      less,
      small_tag c.args.head.version,
    )

pub loop-record-smaller : goal.loop-record-smaller
loop-record-smaller g c =
    let so_far = c.loop-record.invariant in
    let within = cut_within c.args.list.now c.loop-record.at so_far.done so_far.cut in
    let begins = c.in-Some.ensures.record in
    let fits = record_within c.args.list.now c.loop-record.at c.in-Some.record.now within.within begins in
    omega (arith, fits, some_bytes c.in-Some.record.now begins.listed)

pub loop-record-preserved : goal.loop-record-preserved
loop-record-preserved g c =
    let so_far = c.loop-record.invariant in
    let r = c.in-Some.record.now in
    let part = part_of c.add.result in
    let kind = kind_of_list c.args.space in
    let nine = c.part_for-part.ensures in
    record {
      done = so_far.done ++ r ∷ [];
      parts = so_far.parts ++ part;
      cut = cut_more c.args.list.now c.loop-record.at so_far.done r so_far.cut c.in-Some.ensures.record;
      size = omega (arith, so_far.size, length-append so_far.parts part, length-append so_far.done (r ∷ []), length-part c.part_for-part.result, ap length nine);
      spelled = c.push_part.ensures (reply_with c.args.head kind so_far.parts) so_far.spelled ∙ ap (λ xs. frame_bytes (reply_with c.args.head kind (so_far.parts ++ xs))) nine;
      added = each_more_by c.args.space c.args.pass.now c.loop-record.pass c.add.new.pass so_far.done so_far.parts r c.add.result so_far.added c.add.ensures.called;
      idle = c.add.ensures.idle;
    }

pub returns-clause-puts : goal.returns-clause-puts
returns-clause-puts g c =
    let so_far = c.loop-record.invariant in
    let list = c.requires.list in
    let all = all_cut c.args.list.now c.loop-record.at so_far.done list.0 so_far.cut (c.next_record.ensures.none c.in_default.is) list.1 in
    (so_far.parts, so_far.spelled, (list.0, list.1, subst (λ done. AddsEachBy c.args.space c.args.pass.now done so_far.parts c.loop-record.pass) (sym all.same) so_far.added))
