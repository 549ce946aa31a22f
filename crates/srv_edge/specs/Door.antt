-- What a door answers.
use Rattle.std.specs.Prelude.{⊤, ℕ}
use Rattle.srv_edge.specs.declared.door.Accepted.{Accepted}
use Rattle.srv_edge.specs.declared.door.Accepted.TheVariants.{Link, Closed, Failed}

-- how many links it hands out
abbrev pub links_in : {E : Type 0} → Accepted E → ℕ
links_in (Link e) = 1
links_in Closed = 0
links_in Failed = 0

-- how often it fails
abbrev pub failures_in : {E : Type 0} → Accepted E → ℕ
failures_in (Link e) = 0
failures_in Closed = 0
failures_in Failed = 1

-- the link that it hands out, if it does, is so
abbrev pub IfLink : {E : Type 0} → Accepted E → (E → Type 0) → Type 0
IfLink (Link e) P = P e
IfLink Closed P = ⊤
IfLink Failed P = ⊤

-- no link will come any more
abbrev pub IsClosed : {E : Type 0} → Accepted E → Type 0
IsClosed (Link e) = ⊥
IsClosed Closed = ⊤
IsClosed Failed = ⊥

-- the door failed
abbrev pub IsFailed : {E : Type 0} → Accepted E → Type 0
IsFailed (Link e) = ⊥
IsFailed Closed = ⊥
IsFailed Failed = ⊤
