use Rattle.std.proofs.Common.{◌≡◌, ◌+◌, ◌++◌, ◌<◌, ℕ, [], get_or, length, take, refl, sym, ap, ◌∙◌, arith}
use Rattle.std.proofs.lemmas.Option.{get_or_from_slice_get, slice_get_within}
use Rattle.names_table.specs.Names.{bytes_of}
use Rattle.pdb_dump.specs.Dump.{name_line}
use Rattle.pdb_dump.proofs.Lines.{put_next, bytes_most, bytes_next}
use Rattle.pdb_dump.proofs.dump.put_names.Goals as goal

pub overflow_cast-offset : goal.overflow_cast-offset
overflow_cast-offset c =
    let names = c.args.names.now.names in
    let i = c.loop-position.position in
    let name = c.in-Some.name.now in
    let lt = slice_get_within names i name (sym c.in-Some.ensures) in
    omega (arith, bytes_next names i name (sym c.in-Some.ensures) lt, bytes_most names (i + 1), c.requires)

pub overflow_add-offset : goal.overflow_add-offset
overflow_add-offset c =
    let names = c.args.names.now.names in
    let i = c.loop-position.position in
    let name = c.in-Some.name.now in
    let lt = slice_get_within names i name (sym c.in-Some.ensures) in
    omega (arith, bytes_next names i name (sym c.in-Some.ensures) lt, bytes_most names (i + 1), c.requires)

pub overflow_add-offset-in-loop-position : goal.overflow_add-offset-in-loop-position
overflow_add-offset-in-loop-position c =
    let names = c.args.names.now.names in
    let i = c.loop-position.position in
    let name = c.in-Some.name.now in
    let lt = slice_get_within names i name (sym c.in-Some.ensures) in
    omega (arith, bytes_next names i name (sym c.in-Some.ensures) lt, bytes_most names (i + 1), c.loop-position.invariant.offset, c.requires)

pub loop-position-preserved : goal.loop-position-preserved
loop-position-preserved c =
    let names = c.args.names.now.names in
    let i = c.loop-position.position in
    let name = c.in-Some.name.now in
    let old = c.loop-position.text.items in
    let line = λ (k : ℕ). name_line (bytes_of (take k names)) (get_or names k []) in
    let lt = slice_get_within names i name (sym c.in-Some.ensures) in
    let r = get_or_from_slice_get names i name [] (sym c.in-Some.ensures) in
    let put : c.put_name.new.text.items ≡ old ++ line i =
    c.in_ok-put_name.ensures ∙ ap (λ k. old ++ name_line k name) c.loop-position.invariant.offset ∙ ap (λ x. old ++ name_line (bytes_of (take i names)) x) (sym r)
    in
    record {
      text = put ∙ put_next line c.args.text.now.items old i c.loop-position.invariant.text;
      offset = ap (λ k. k + (length name + 1)) c.loop-position.invariant.offset ∙ sym (bytes_next names i name (sym c.in-Some.ensures) lt);
    }
