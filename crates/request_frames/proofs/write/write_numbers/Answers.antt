use Rattle.std.proofs.Common.{[], length, ap, arith}
use Rattle.srv_edge.specs.declared.head.Head.{Head}
use Rattle.srv_edge.specs.declared.kind.TheConstants as kinds
use Rattle.srv_edge.specs.Frames.{Frame}
use Rattle.request_frames.proofs.Framing.{length-frame_bytes, small_tag}
use Rattle.request_frames.proofs.write.write_numbers.Goals as goal

-- the frame of a refusal without its body
abbrev bare : Head → Frame
bare head = record { head = head; message = record { kind = kinds.REFUSED; body = [] } }

pub push_part-requires-clause-some : goal.push_part-requires-clause-some
push_part-requires-clause-some c = omega (arith, ap length c.write_frame.ensures, length-frame_bytes (bare c.args.head))

pub push_part-requires-clause-fits : goal.push_part-requires-clause-fits
push_part-requires-clause-fits c = omega (arith, ap length c.write_frame.ensures, length-frame_bytes (bare c.args.head), small_tag c.args.head.version)

pub returns : goal.returns
returns c = c.push_part.ensures (bare c.args.head) c.write_frame.ensures
