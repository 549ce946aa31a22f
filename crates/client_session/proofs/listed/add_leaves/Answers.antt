use Rattle.std.proofs.Common.{◌≡◌, ◌+◌, ◌∷◌, ◌++◌, ℕ, List, [], length, refl, ap, subst, ◌∙◌, arith, length-append, rules}
use Rattle.srv_edge.specs.declared.head.Head.{Head}
use Rattle.srv_edge.specs.declared.kind.TheConstants as kinds
use Rattle.srv_edge.specs.Frames.{Frame, frame_bytes}
use Rattle.turnstile.specs.Passes.{PassView}
use Rattle.hub.specs.Turns.{pass_in}
use Rattle.hub.proofs.Ahead.{behind_turn}
use Rattle.request_frames.specs.Lists.{AreRecords}
use Rattle.request_frames.proofs.Framing.{length-frame_bytes, small_tag}
use Rattle.request_frames.proofs.Listing.{all_cut, cut_fewer, cut_more, cut_within, record_within, some_bytes}
use Rattle.client_session.specs.Sharing.{PutsParts}
use Rattle.client_session.specs.Tables.{kind_of_list, part_of}
use Rattle.client_session.proofs.Leaves.{leaf_at, since_all, since_more, sound_in}
use Rattle.client_session.proofs.Lists.{length-part}
use Rattle.client_session.proofs.listed.add_leaves.Goals as goal

-- the reply with these parts
abbrev reply_with : Head → ℕ → List ℕ → Frame
reply_with head kind parts = record { head = head; message = record { kind = kind + kinds.REPLY; body = parts } }

pub loop-record-init : goal.loop-record-init
loop-record-init g c = (
  record {
    done = [];
    parts = [];
    cut = record { each = tt; split = refl; place = refl };
    size = refl;
    spelled = c.write_reply.ensures ∙ ap (λ kind. frame_bytes (reply_with c.args.head kind [])) c.list_kind.ensures;
    added = (refl, c.take_turn-turn.ensures.ahead);
    leaves = c.requires.leaves;
    in_turn = c.take_turn-turn.ensures.turn;
  },
  refl,
  refl,
)

pub next_record-requires : goal.next_record-requires
next_record-requires g c =
    let so_far = c.loop-record.invariant.0 in
    (cut_within c.args.list.now c.loop-record.at so_far.done so_far.cut).within

pub add_leaf-requires-clause-turn : goal.add_leaf-requires-clause-turn
add_leaf-requires-clause-turn g c = c.loop-record.invariant.0.in_turn

pub add_leaf-requires-clause-leaf : goal.add_leaf-requires-clause-leaf
add_leaf-requires-clause-leaf g c =
    let so_far = c.loop-record.invariant.0 in
    let list = c.requires.list in
    (leaf_at c.args.space c.args.list.now c.loop-record.at so_far.done list.0 c.in-Some.record.now so_far.cut list.1 c.in-Some.ensures.record so_far.leaves).leaf

pub push_part-requires-clause-some : goal.push_part-requires-clause-some
push_part-requires-clause-some g c =
    let so_far = c.loop-record.invariant.0 in
    omega (arith, ap length so_far.spelled, length-frame_bytes (reply_with c.args.head (kind_of_list c.args.space) so_far.parts))

pub push_part-requires-clause-fits : goal.push_part-requires-clause-fits
push_part-requires-clause-fits g c =
    let so_far = c.loop-record.invariant.0 in
    let list = c.requires.list in
    let less = cut_fewer c.args.list.now c.loop-record.at so_far.done list.0 c.in-Some.record.now so_far.cut list.1 c.in-Some.ensures.record in
    omega (
      arith,
      ap length so_far.spelled,
      length-frame_bytes (reply_with c.args.head (kind_of_list c.args.space) so_far.parts),
      so_far.size,
      less,
      small_tag c.args.head.version,
    )

pub loop-record-smaller : goal.loop-record-smaller
loop-record-smaller g c =
    let so_far = c.loop-record.invariant.0 in
    let within = cut_within c.args.list.now c.loop-record.at so_far.done so_far.cut in
    let begins = c.in-Some.ensures.record in
    let fits = record_within c.args.list.now c.loop-record.at c.in-Some.record.now within.within begins in
    omega (arith, fits, some_bytes c.in-Some.record.now begins.listed)

pub loop-record-preserved : goal.loop-record-preserved
loop-record-preserved g c =
    let so_far = c.loop-record.invariant.0 in
    let list = c.requires.list in
    let r = c.in-Some.record.now in
    let part = part_of c.add_leaf.result in
    let kind = kind_of_list c.args.space in
    let nine = c.part_for-part.ensures in
    let told = c.add_leaf.ensures in (
      record {
        done = so_far.done ++ r ∷ [];
        parts = so_far.parts ++ part;
        cut = cut_more c.args.list.now c.loop-record.at so_far.done r so_far.cut c.in-Some.ensures.record;
        size = omega (arith, so_far.size, length-append so_far.parts part, length-append so_far.done (r ∷ []), length-part c.part_for-part.result, ap length nine);
        spelled = c.push_part.ensures (reply_with c.args.head kind so_far.parts) so_far.spelled ∙ ap (λ xs. frame_bytes (reply_with c.args.head kind (so_far.parts ++ xs))) nine;
        added = since_more c.args.space c.args.pass.now (pass_in c.loop-record.turn) (pass_in c.add_leaf.new.turn) so_far.done so_far.parts r c.add_leaf.result so_far.added told.reply told.same (sound_in c.add_leaf.new.turn told.turn.0);
        leaves = (leaf_at c.args.space c.args.list.now c.loop-record.at so_far.done list.0 r so_far.cut list.1 c.in-Some.ensures.record so_far.leaves).rest;
        in_turn = told.turn.0;
      },
      told.turn.1.0 ∙ c.loop-record.invariant.1,
      told.turn.1.1 ∙ c.loop-record.invariant.2,
    )

pub leave-requires-clause-open : goal.leave-requires-clause-open
leave-requires-clause-open g c = c.loop-record.invariant.0.in_turn.opened

pub leave-requires-clause-basis : goal.leave-requires-clause-basis
leave-requires-clause-basis g c = c.loop-record.invariant.0.in_turn.basis

pub leave-requires-clause-filed : goal.leave-requires-clause-filed
leave-requires-clause-filed g c = c.loop-record.invariant.0.in_turn.history

pub returns-clause-puts : goal.returns-clause-puts
returns-clause-puts g c =
    let so_far = c.loop-record.invariant.0 in
    let list = c.requires.list in
    let all = all_cut c.args.list.now c.loop-record.at so_far.done list.0 so_far.cut (c.next_record.ensures.none c.in_default.is) list.1 in
    let are = subst (AreRecords c.args.list.now) all.same list.1 in
    let added = since_all c.args.space c.args.pass.now (pass_in c.loop-record.turn) c.args.list.now so_far.done so_far.parts are so_far.added in
    let left : c.leave.new.self.1.0 ≡ c.pass-1.given.0 = search rules in
    let behind = behind_turn c.leave.new.self.1.0 c.loop-record.turn.pass.now c.leave.ensures.same c.leave.ensures.idle.1 c.leave.ensures.seen in
    subst (λ (p : PassView). PutsParts c.args.head c.args.space c.args.pass.now c.args.list.now c.loop-record.out p) (behind ∙ left) (so_far.parts, so_far.spelled, (so_far.done, are, added))
