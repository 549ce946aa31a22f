use Rattle.std.proofs.Common.{◌≡◌, ◌++◌, [], ◌∷◌, inl, ◌∙◌, arith}
use Rattle.srv_edge.proofs.Replaying.{adds_pushed, if_ok, shows_same}
use Rattle.srv_edge.proofs.memory_device.MemDevice.keep.Goals as goal

pub invariant_of-self : goal.invariant_of-self
invariant_of-self c =
    let old = c.args.self.now in
    let before = c.prepare.new.self.calls.items in
    let is : c.push.new.self.items ≡ before ++ c.in_ok-call.call ∷ [] = if_ok c.push.result _ _ _ (c.push.ensures.succeeds c.in_ok-call.ensures.room) c.push.ensures.items in
    let adds = adds_pushed old.calls.items before c.push.new.self.items c.in_ok-call.call c.args.kind c.args.bytes.now c.args.done c.prepare.ensures.calls is c.in_ok-call.ensures.kind c.in_ok-call.ensures.bytes c.in_ok-call.ensures.done in
    record {
      few = omega (arith, c.in_ok-call.ensures.few);
      shows = shows_same old.file c.prepare.new.self.file old.calls.items c.push.new.self.items c.args.kind c.args.bytes.now c.args.done c.prepare.ensures.file adds c.requires.leaves old.shows;
    }

pub invariant_of-self-else-done : goal.invariant_of-self-else-done
invariant_of-self-else-done c =
    let old = c.args.self.now in
    let before = c.prepare.new.self.calls.items in
    let is : c.push.new.self.items ≡ before ++ c.in_ok-call.call ∷ [] = if_ok c.push.result _ _ _ (c.push.ensures.succeeds c.in_ok-call.ensures.room) c.push.ensures.items in
    let adds = adds_pushed old.calls.items before c.push.new.self.items c.in_ok-call.call c.args.kind c.args.bytes.now c.args.done c.prepare.ensures.calls is c.in_ok-call.ensures.kind c.in_ok-call.ensures.bytes c.in_ok-call.ensures.done in
    record {
      few = omega (arith, c.in_ok-call.ensures.few);
      shows = shows_same old.file c.prepare.new.self.file old.calls.items c.push.new.self.items c.args.kind c.args.bytes.now c.args.done c.prepare.ensures.file adds c.requires.leaves old.shows;
    }

pub returns-then-done-clause-kept : goal.returns-then-done-clause-kept
returns-then-done-clause-kept c =
    let before = c.prepare.new.self.calls.items in
    let is : c.push.new.self.items ≡ before ++ c.in_ok-call.call ∷ [] = if_ok c.push.result _ _ _ (c.push.ensures.succeeds c.in_ok-call.ensures.room) c.push.ensures.items in
    (adds_pushed c.args.self.now.calls.items before c.push.new.self.items c.in_ok-call.call c.args.kind c.args.bytes.now _ c.prepare.ensures.calls is c.in_ok-call.ensures.kind c.in_ok-call.ensures.bytes (c.in_ok-call.ensures.done ∙ c.if-done.true), c.if-done.true)

pub returns-else-done-clause-kept : goal.returns-else-done-clause-kept
returns-else-done-clause-kept c =
    let before = c.prepare.new.self.calls.items in
    let is : c.push.new.self.items ≡ before ++ c.in_ok-call.call ∷ [] = if_ok c.push.result _ _ _ (c.push.ensures.succeeds c.in_ok-call.ensures.room) c.push.ensures.items in
    inl (adds_pushed c.args.self.now.calls.items before c.push.new.self.items c.in_ok-call.call c.args.kind c.args.bytes.now _ c.prepare.ensures.calls is c.in_ok-call.ensures.kind c.in_ok-call.ensures.bytes (c.in_ok-call.ensures.done ∙ c.if-done.false), c.if-done.false)
