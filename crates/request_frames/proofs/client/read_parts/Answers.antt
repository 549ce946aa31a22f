use Rattle.std.proofs.Common.{◌/◌, length, arith}
use Rattle.request_frames.proofs.client.read_parts.Goals as goal

pub returns-clause-length : goal.returns-clause-length
returns-clause-length c =
    (length c.args.body.now / 9, omega (arith, c.if-body-count.false), omega (arith, c.if-count-eq0.false), c.if-count.false)
