-- What was read as a leaf has room for its index fields.
use Rattle.std.proofs.Common.{◌≤◌, ◌+◌, ◌*◌, ℕ, List, length, IsOk, arith}
use Rattle.leaf_grammar.specs.declared.grammar.Space.{Space}
use Rattle.leaf_grammar.specs.declared.grammar.Width.{Width}
use Rattle.leaf_grammar.specs.declared.grammar.Element.TheVariants as each
use Rattle.leaf_grammar.specs.declared.grammar.Form.TheVariants as form
use Rattle.leaf_grammar.specs.Leaf.{bytes_on, form_end, size_of, number_at}
use Rattle.leaf_grammar.proofs.Further.{bytes_on-is}
use Rattle.leaf_grammar.proofs.Rooms.{first_ok, bytes_room}

pub index_room : (space : Space) (r : List ℕ) (at : ℕ) → IsOk (form_end (form.Index space) r at) → at + 4 ≤ length r
unfolding form_end
index_room space r at h = bytes_room 4 r at h

pub list_room : (width : Width) (space : Space) (r : List ℕ) (at : ℕ) → IsOk (form_end (form.List width (each.Index space)) r at) → at + size_of width + 4 * number_at width r at ≤ length r
unfolding form_end
list_room width space r at h =
    let b = first_ok (bytes_on (size_of width) r at) (bytes_on (4 * number_at width r at) r) h in
    let room = bytes_room (4 * number_at width r at) r b.0 b.2 in
    omega (arith, bytes_on-is (size_of width) r at b.0 b.1, room)
