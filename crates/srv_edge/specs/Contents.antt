-- A file that is copied at its first write.
use Rattle.std.specs.Prelude.{ℕ, List, Some, None}
use Rattle.srv_edge.specs.declared.memory_record.Contents.{Contents}

-- what a read gives
abbrev pub shown : Contents → List ℕ
shown c = elim c.later [ None ↦ c.first.items | Some v ↦ v.items ]
