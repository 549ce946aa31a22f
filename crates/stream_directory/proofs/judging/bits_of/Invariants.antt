use Rattle.std.proofs.Common.{◌≡◌, ◌+◌, ◌/◌, ℕ, take, vec_len, eqb}
use Rattle.std.specs.List.{list_any}
use Rattle.msf_blocks.specs.Bits.{has_bit}
use Rattle.stream_directory.proofs.judging.bits_of.Given as goal

abbrev pub invariant-loop-b : goal.invariant-loop-b
invariant-loop-b l = (vec_len l.bits ≡ (l.blocks + 7) / 8) × ((k : ℕ) → has_bit l.bits.items k ≡ list_any (λ b. eqb b k) (take l.b-index l.among))
