-- A leaf is a record: its first two bytes are its length less 2.
use Rattle.std.proofs.Common.{◌≡◌, ◌≤◌, ℕ, true, List, length, IsOk, arith}
use Rattle.std.proofs.lemmas.Grind.{common_steps}
use Rattle.leaf_grammar.specs.declared.grammar.Space.{Space}
use Rattle.leaf_grammar.specs.Leaf.{has_length, leaf_of}
use Rattle.leaf_grammar.proofs.Rooms.{content_ok}
use Rattle.record_table.specs.Table.{IsRecord}

of_its_length : (r : List ℕ) → has_length r ≡ true → IsRecord r
of_its_length r h =
    let longest : length r ≤ 65536 = grind (arith, common_steps) in
    record { shortest = grind (arith, common_steps); longest = omega (arith, longest); says = grind (arith, common_steps) }

pub leaf_is_record : (space : Space) (r : List ℕ) → IsOk (leaf_of space r) → IsRecord r
leaf_is_record space r h = of_its_length r (content_ok space r h).0
