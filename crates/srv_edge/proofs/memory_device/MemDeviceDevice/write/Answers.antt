use Rattle.srv_edge.specs.declared.memory_record.CallKind.TheVariants.{Write}
use Rattle.srv_edge.proofs.Replaying.{kept_follows, kept_time}
use Rattle.srv_edge.proofs.memory_device.MemDeviceDevice.write.Goals as goal

pub returns-clause-crash : goal.returns-clause-crash
returns-clause-crash c =
    let old = c.args.self.now in
    let new = c.change.new.self in
    kept_follows _ old.file.first.items new.file.first.items old.calls.items new.calls.items (Write c.args.at) c.args.bytes.now c.change.result c.change.ensures.kept.first tt c.change.ensures.kept.kept

pub returns-clause-time : goal.returns-clause-time
returns-clause-time c =
    let old = c.args.self.now in
    let new = c.change.new.self in
    kept_time _ old.file.first.items new.file.first.items old.calls.items new.calls.items (Write c.args.at) c.args.bytes.now c.change.result c.change.ensures.kept.first c.change.ensures.kept.kept
