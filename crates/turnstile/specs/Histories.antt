-- Histories: lists of entries, which only grow.
use Rattle.std.specs.Prelude.{◌≡◌, ℕ, ◌/◌, ◌==◌, ltb, List, ◌++◌, length, filter, if◌then◌else◌}
use Rattle.turnstile.specs.declared.history.Entry.{Entry}

-- the long history begins with the short one. A record, so that lemmas find its arguments
pub record Begins (short long : List Entry) : Type 0 where
  pub rest : List Entry
  pub whole : long ≡ short ++ rest

-- whose call an entry is: the highest of its word's eight bytes
abbrev pub caller : Entry → ℕ
caller e = e.word / 72057594037927936

-- the calls of the number n, in their order
abbrev pub calls_by : ℕ → List Entry → List Entry
calls_by n = filter (λ e. caller e == n)

-- the longer of two histories
abbrev pub longer : List Entry → List Entry → List Entry
longer a b = if ltb (length a) (length b) then b else a
