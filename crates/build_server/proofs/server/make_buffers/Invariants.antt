use Rattle.std.proofs.Common.{◌≡◌, vec_capacity, vec_len}
use Rattle.build_server.proofs.server.make_buffers.Given as goal

abbrev pub invariant-loop-made : goal.invariant-loop-made
invariant-loop-made l = record { count : vec_len l.rooms ≡ l._made; memory : vec_capacity l.rooms ≡ vec_capacity l.initial.rooms }
