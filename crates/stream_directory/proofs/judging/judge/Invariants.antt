use Rattle.std.proofs.Common.{◌≡◌, ◌+◌, ◌/◌, ◌++◌, ℕ, take, drop, vec_len, eqb}
use Rattle.std.specs.List.{list_any}
use Rattle.msf_blocks.specs.Bits.{has_bit}
use Rattle.stream_directory.specs.Reading.{first_bad}
use Rattle.stream_directory.proofs.judging.judge.Given as goal

abbrev pub invariant-loop-b : goal.invariant-loop-b
invariant-loop-b l = (vec_len l.used ≡ (l.s.blocks + 7) / 8) × ((k : ℕ) → has_bit l.used.items k ≡ list_any (λ b. eqb b k) (l.earlier ++ take l.b-index l.blocks)) × (first_bad l.s (l.earlier ++ take l.b-index l.blocks) (drop l.b-index l.blocks) ≡ first_bad l.s l.earlier l.blocks)
