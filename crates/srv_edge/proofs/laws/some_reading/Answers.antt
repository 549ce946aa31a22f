use Rattle.std.proofs.Common.{length, arith}
use Rattle.srv_edge.proofs.Existing.{every_reading}
use Rattle.srv_edge.proofs.laws.some_reading.Goals as goal

pub returns : goal.returns
returns c = λ version bytes is small.
    let reading = every_reading (length bytes) version bytes is (omega arith) small in
    (reading.frames, reading.tail, reading.are)
