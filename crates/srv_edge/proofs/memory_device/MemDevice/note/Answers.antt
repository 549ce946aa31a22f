use Rattle.std.proofs.Common.{◌≡◌, refl, ap, arith}
use Rattle.srv_edge.specs.declared.memory_record.CallKind.{CallKind}
use Rattle.srv_edge.specs.declared.memory_record.CallKind.TheVariants.{Size, Read, Write, Super, Sync}
use Rattle.srv_edge.specs.Contents.{shown}
use Rattle.srv_edge.specs.Kinds.{place_of, IsStill}
use Rattle.srv_edge.specs.Past.{still_seen}
use Rattle.srv_edge.proofs.Replaying.{kept_among, kept_time}
use Rattle.srv_edge.proofs.memory_device.MemDevice.note.Goals as goal

-- no write begins behind the start
no_place : (kind : CallKind) → IsStill kind → place_of kind ≡ 0
no_place Size still = refl
no_place (Read at) still = refl
no_place (Write at) still = absurd still
no_place Super still = absurd still
no_place Sync still = refl

pub keep-requires-clause-end : goal.keep-requires-clause-end
keep-requires-clause-end c = omega (arith, no_place c.args.kind c.requires)

pub keep-requires-clause-leaves : goal.keep-requires-clause-leaves
keep-requires-clause-leaves c = λ s. still_seen s c.args.kind _ _ c.requires

pub returns-clause-still : goal.returns-clause-still
returns-clause-still c =
    let old = c.args.self.now in
    let new = c.keep.new.self in
    let first = ap (λ f. f.first.items) c.keep.ensures.file in
    record {
      seen = ap shown c.keep.ensures.file;
      crash = kept_among _ old.file.first.items new.file.first.items old.calls.items new.calls.items c.args.kind _ c.keep.result first c.requires c.keep.ensures.kept;
      time = kept_time _ old.file.first.items new.file.first.items old.calls.items new.calls.items c.args.kind _ c.keep.result first c.keep.ensures.kept;
    }
