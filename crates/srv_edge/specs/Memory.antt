-- What is seen of the sources and sinks in memory, and what their calls leave.
use Rattle.std.specs.Prelude.{◌≡◌, ◌+◌, ◌-◌, ◌^◌, ℕ, true, List, [], length, min, take, drop, Result, IsErr, is_err, IfOk}
use Rattle.srv_edge.specs.Count.{Counts, HasCause}
use Rattle.srv_edge.specs.Replay.{is_to_fail}
use Rattle.srv_edge.specs.Stream.{Gives, Takes}
use Rattle.srv_edge.specs.declared.failed.Failed.{Failed}
use Rattle.srv_edge.specs.declared.memory.MemSink.{MemSink}
use Rattle.srv_edge.specs.declared.memory.MemSource.{MemSource}

-- the bytes that a source has given, and those that are left
abbrev pub given_by : MemSource → List ℕ
given_by s = take s.at s.bytes.items

abbrev pub left_in : MemSource → List ℕ
left_in s = drop s.at s.bytes.items

-- a source as it was made, with these bytes, this piece and these calls that are to fail
pub record IsNewSource (bytes : List ℕ) (piece : ℕ) (fail : List ℕ) (s : MemSource) : Type 0 where
  pub given : given_by s ≡ []
  pub left : left_in s ≡ bytes
  pub piece_is : s.piece ≡ piece
  pub fails : s.failing.calls.items ≡ fail
  pub none_made : s.failing.made ≡ 0
  pub no_faults : s.faults.count ≡ 0

-- A take into a slice of so many bytes: it fails exactly where it is to, and else gives a piece, or what is left, or
-- what the slice has room for, whichever is least.
pub record IsTake (room : ℕ) (old : MemSource) (into : List ℕ) (result : Result ℕ Failed) (new : MemSource) : Type 0 where
  pub fails : is_err result ≡ is_to_fail old.failing.calls.items old.failing.made
  pub count : IfOk result (λ n. n ≡ min old.piece (min (length (left_in old)) room))
  pub bytes : Takes (given_by old) (left_in old) result into (given_by new) (left_in new)
  pub piece : new.piece ≡ old.piece
  pub calls : new.failing.calls ≡ old.failing.calls
  pub made : new.failing.made ≡ min (old.failing.made + 1) (2 ^ 32 - 1)
  pub counted : Counts old.faults.count result new.faults.count
  pub cause : HasCause (IsErr result) old.faults.count new.faults.count

-- the bytes that a sink has taken
abbrev pub taken_by : MemSink → List ℕ
taken_by s = s.taken.items

-- a sink as it was made, with these calls that are to fail
pub record IsNewSink (fail : List ℕ) (s : MemSink) : Type 0 where
  pub taken : taken_by s ≡ []
  pub fails : s.failing.calls.items ≡ fail
  pub none_made : s.failing.made ≡ 0
  pub no_faults : s.faults.count ≡ 0

-- A give: it fails where it is to, or where memory runs out, and else takes all the bytes.
pub record IsGive (old : MemSink) (bytes : List ℕ) (result : Result ℕ Failed) (new : MemSink) : Type 0 where
  pub fails : is_to_fail old.failing.calls.items old.failing.made ≡ true → IsErr result
  pub all : IfOk result (λ n. n ≡ length bytes)
  pub taken : Gives (taken_by old) result bytes (taken_by new)
  pub calls : new.failing.calls ≡ old.failing.calls
  pub made : new.failing.made ≡ min (old.failing.made + 1) (2 ^ 32 - 1)
  pub counted : Counts old.faults.count result new.faults.count
  pub cause : HasCause (IsErr result) old.faults.count new.faults.count
