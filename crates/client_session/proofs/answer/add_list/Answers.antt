use Rattle.std.proofs.Common.{◌+◌, ◌∷◌, ◌++◌, ℕ, List, [], length, refl, sym, ap, subst, ◌∙◌, arith, length-append}
use Rattle.srv_edge.specs.declared.head.Head.{Head}
use Rattle.srv_edge.specs.declared.kind.TheConstants as kinds
use Rattle.srv_edge.specs.Frames.{Frame, frame_bytes}
use Rattle.request_frames.proofs.Framing.{length-frame_bytes, small_tag}
use Rattle.request_frames.proofs.Listing.{all_cut, cut_fewer, cut_more, cut_within, none_cut, record_within, some_bytes}
use Rattle.type_store.specs.Views.{tables_in}
use Rattle.client_session.specs.Tables.{AddsEach, kind_of_list, part_of}
use Rattle.client_session.proofs.Lists.{each_more, length-part}
use Rattle.client_session.proofs.answer.add_list.Goals as goal

-- the reply with these parts
abbrev reply_with : Head → ℕ → List ℕ → Frame
reply_with head kind parts = record { head = head; message = record { kind = kind + kinds.REPLY; body = parts } }

pub loop-record-init : goal.loop-record-init
loop-record-init c = record {
  done = [];
  parts = [];
  cut = none_cut c.args.list.now;
  size = refl;
  spelled = c.write_reply.ensures ∙ ap (λ k. frame_bytes (reply_with c.args.head k [])) c.list_kind.ensures;
  added = (refl, refl);
}

pub next_record-requires : goal.next_record-requires
next_record-requires c = (cut_within c.args.list.now c.loop-record.at c.loop-record.invariant.done c.loop-record.invariant.cut).within

pub push_part-requires-clause-some : goal.push_part-requires-clause-some
push_part-requires-clause-some c =
    let so_far = c.loop-record.invariant in
    omega (arith, ap length so_far.spelled, length-frame_bytes (reply_with c.args.head (kind_of_list c.args.space) so_far.parts))

pub push_part-requires-clause-fits : goal.push_part-requires-clause-fits
push_part-requires-clause-fits c =
    let so_far = c.loop-record.invariant in
    let list = c.requires.list in
    let less = cut_fewer c.args.list.now c.loop-record.at so_far.done list.0 c.in-Some.record.now so_far.cut list.1 c.in-Some.ensures.record in
    omega (
      arith,
      ap length so_far.spelled,
      length-frame_bytes (reply_with c.args.head (kind_of_list c.args.space) so_far.parts),
      so_far.size,
      less,
      small_tag c.args.head.version,
    )

pub loop-record-smaller : goal.loop-record-smaller
loop-record-smaller c =
    let so_far = c.loop-record.invariant in
    let within = cut_within c.args.list.now c.loop-record.at so_far.done so_far.cut in
    let begins = c.in-Some.ensures.record in
    let fits = record_within c.args.list.now c.loop-record.at c.in-Some.record.now within.within begins in
    omega (arith, fits, some_bytes c.in-Some.record.now begins.listed)

pub loop-record-preserved : goal.loop-record-preserved
loop-record-preserved c =
    let so_far = c.loop-record.invariant in
    let r = c.in-Some.record.now in
    let part = part_of c.add.result in
    let kind = kind_of_list c.args.space in
    let nine = c.part_for-part.ensures in
    record {
      done = so_far.done ++ r ∷ [];
      parts = so_far.parts ++ part;
      cut = cut_more c.args.list.now c.loop-record.at so_far.done r so_far.cut c.in-Some.ensures.record;
      size = omega (arith, so_far.size, length-append so_far.parts part, length-append so_far.done (r ∷ []), length-part c.part_for-part.result, ap length nine);
      spelled = c.push_part.ensures (reply_with c.args.head kind so_far.parts) so_far.spelled ∙ ap (λ xs. frame_bytes (reply_with c.args.head kind (so_far.parts ++ xs))) nine;
      added = each_more c.args.space (tables_in c.args.tables.now) (tables_in c.loop-record.tables) (tables_in c.add.new.tables) so_far.done so_far.parts r c.add.result so_far.added c.add.ensures;
    }

pub returns : goal.returns
returns c =
    let so_far = c.loop-record.invariant in
    let list = c.requires.list in
    let all = all_cut c.args.list.now c.loop-record.at so_far.done list.0 so_far.cut (c.next_record.ensures.none c.in_default.is) list.1 in
    (so_far.parts, so_far.spelled, (list.0, list.1, subst (λ done. AddsEach c.args.space (tables_in c.args.tables.now) done so_far.parts (tables_in c.loop-record.tables)) (sym all.same) so_far.added))
