use Rattle.std.proofs.Common.{◌≡◌, None, take}
use Rattle.record_table.specs.Table.{place_of}
use Rattle.table_model.proofs.search.place_of_name.Given as goal

abbrev pub invariant-loop-place : goal.invariant-loop-place
invariant-loop-place l = place_of (take l.place l.names) l.name ≡ None
