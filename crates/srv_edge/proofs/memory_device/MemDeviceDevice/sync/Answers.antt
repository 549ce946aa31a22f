use Rattle.srv_edge.specs.Contents.{shown}
use Rattle.srv_edge.proofs.Replaying.{kept_only}
use Rattle.srv_edge.proofs.memory_device.MemDeviceDevice.sync.Goals as goal

pub returns-clause-durable : goal.returns-clause-durable
returns-clause-durable c =
    let old = c.args.self.now in
    let new = c.note.new.self in
    kept_only _ old.file.first.items new.file.first.items (shown old.file) old.calls.items new.calls.items c.note.result c.note.ensures.kept.first old.shows c.note.ensures.kept.kept
