use Rattle.std.proofs.Common.{◌≡◌, IfOk, take, rules}
use Rattle.srv_edge.specs.Past.{image_of_is, left_then}
use Rattle.srv_edge.specs.Replay.{image_of, state_of}
use Rattle.srv_edge.proofs.Replaying.{if_ok_then}
use Rattle.srv_edge.proofs.memory_device.MemDevice.image.Goals as goal

pub returns-clause-image : goal.returns-clause-image
returns-clause-image c =
    let d = c.args.self.now in
    let s = state_of d.file.first.items (take c.args.calls d.calls.items) in
    let text : IfOk c.replayed.result (λ v. v.items ≡ image_of s c.args.fill c.args.last_super) = search rules in
    if_ok_then c.replayed.result _ _ (λ v is. image_of_is s c.args.fill c.args.last_super v.items is) text

pub returns-clause-left : goal.returns-clause-left
returns-clause-left c =
    let d = c.args.self.now in
    let s = state_of d.file.first.items (take c.args.calls d.calls.items) in
    let text : IfOk c.replayed.result (λ v. v.items ≡ image_of s c.args.fill c.args.last_super) = search rules in
    if_ok_then c.replayed.result _ _
    (λ v is. left_then d.file.first.items d.calls.items c.args.calls v.items c.requires (image_of_is s c.args.fill c.args.last_super v.items is)) text
