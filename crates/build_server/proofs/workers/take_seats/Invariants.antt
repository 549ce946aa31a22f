use Rattle.std.proofs.Common.{◌≡◌, ◌+◌, All, length, map, vec_capacity, vec_len}
use Rattle.build_server.specs.Workers.{badge_of, badges_from}
use Rattle.build_server.proofs.workers.take_seats.Given as goal

abbrev pub invariant-loop-room : goal.invariant-loop-room
invariant-loop-room g l = record {
  first : l.first ≡ record l.initial.first { made = length l.yielded + 1 };
  passes : map (λ w. badge_of w.desk) l.workers.items ≡ badges_from l.hub 1 (length l.yielded);
  unused : All (λ w. w.links ≡ 0) l.workers.items;
  count : vec_len l.workers ≡ length l.yielded;
  memory : vec_capacity l.workers ≡ vec_capacity l.initial.workers;
}
