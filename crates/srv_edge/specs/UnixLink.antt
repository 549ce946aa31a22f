-- What is seen of a client of a socket.
use Rattle.std.specs.Prelude.{ℕ, List}
use Rattle.srv_edge.specs.declared.unix_link.UnixLink.{UnixLink}

-- how often a read of it has failed
abbrev pub read_faults : UnixLink → ℕ
read_faults l = l.source_faults.count

-- how often a write to it has failed
abbrev pub write_faults : UnixLink → ℕ
write_faults l = l.sink_faults.count

-- the bytes that were read from it and not asked for yet
abbrev pub read_ahead : UnixLink → List ℕ
read_ahead l = l.ahead

-- the bytes that it was given and that are not written yet
abbrev pub unsent : UnixLink → List ℕ
unsent l = l.held
