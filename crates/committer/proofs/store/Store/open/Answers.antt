use Rattle.srv_edge.proofs.Moments.{holds_now}
use Rattle.committer.proofs.Storing.{opened}
use Rattle.committer.proofs.store.Store.open.Goals as goal

pub invariant_of-result : goal.invariant_of-result
invariant_of-result g c =
    let mid = c.sync.new.self in
    let last = c.open_image.new.device in
    let read = c.in-Ok-open_image.ensures in
    record {
      most = c.requires.most;
      holds = record {
        whole = read.whole;
        limited = read.limited;
        reads = λ y now.
            let d = g.D.Device in
            let then = holds_now d.moment d.left_since mid last (d.may_leave mid) (d.may_leave last) read.only_reads.any_moment (g.met.D.Device.counts_now last) y now in
            opened c.args.limit c.in-Ok-open_image.image (d.seen c.args.device) (d.seen mid) (d.seen last) y c.in-Ok.ensures.seen read.only_reads.seen (c.in-Ok.ensures.durable y then) (read.image (g.met.D.Device.told last y now));
      };
    }
