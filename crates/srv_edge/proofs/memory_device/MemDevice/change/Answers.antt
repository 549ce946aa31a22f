use Rattle.std.proofs.Common.{◌≡◌, ◌++◌, [], ◌∷◌, true, not, ap, sym, ◌∙◌, arith, rules}
use Rattle.srv_edge.specs.Contents.{shown}
use Rattle.srv_edge.specs.Disk.{splice}
use Rattle.srv_edge.proofs.Replaying.{adds_pushed, if_ok, on_ok, refused_seen, shows_changed}
use Rattle.srv_edge.proofs.memory_device.MemDevice.change.Goals as goal

pub keep-requires-clause-leaves : goal.keep-requires-clause-leaves
keep-requires-clause-leaves c = λ s. refused_seen s c.args.kind _ c.requires.change

pub invariant_of-self-2 : goal.invariant_of-self-2
invariant_of-self-2 c =
    let old = c.args.self.now in
    let new = c.write.new.self in
    let before = c.prepare.new.self.calls.items in
    let is : c.push.new.self.items ≡ before ++ c.in_ok-call.call ∷ [] = if_ok c.push.result _ _ _ (c.push.ensures.succeeds c.in_ok-call.ensures.room) c.push.ensures.items in
    let adds = adds_pushed old.calls.items before c.push.new.self.items c.in_ok-call.call c.args.kind c.args.bytes.now true c.prepare.ensures.calls is c.in_ok-call.ensures.kind c.in_ok-call.ensures.bytes c.in_ok-call.ensures.done in
    let first = ap (λ v. v.items) c.write.ensures.first ∙ ap (λ f. f.first.items) c.prepare.ensures.file in
    let done : shown new ≡ splice (shown c.prepare.new.self.file) c.args.at c.args.bytes.now = on_ok c.write.result _ c.if-is_err.ensures.value c.write.ensures.ok in
    let written = done ∙ ap (λ f. splice (shown f) c.args.at c.args.bytes.now) c.prepare.ensures.file ∙ ap (λ p. splice (shown old.file) p c.args.bytes.now) c.requires.place in
    record {
      few = omega (arith, c.in_ok-call.ensures.few);
      shows = shows_changed old.file new old.calls.items c.push.new.self.items c.args.kind c.args.bytes.now first written adds c.requires.change old.shows;
    }

pub returns-clause-kept : goal.returns-clause-kept
returns-clause-kept c =
    let before = c.prepare.new.self.calls.items in
    let is : c.push.new.self.items ≡ before ++ c.in_ok-call.call ∷ [] = if_ok c.push.result _ _ _ (c.push.ensures.succeeds c.in_ok-call.ensures.room) c.push.ensures.items in
    let asked = ap not (sym c.is_to_fail.ensures ∙ c.if-is_to_fail.false) in
    record {
      kept = (adds_pushed c.args.self.now.calls.items before c.push.new.self.items c.in_ok-call.call c.args.kind c.args.bytes.now true c.prepare.ensures.calls is c.in_ok-call.ensures.kind c.in_ok-call.ensures.bytes c.in_ok-call.ensures.done, asked);
      first = ap (λ v. v.items) c.write.ensures.first ∙ ap (λ f. f.first.items) c.prepare.ensures.file;
      counted = search rules;
    }
