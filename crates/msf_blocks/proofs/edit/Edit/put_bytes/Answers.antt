use Rattle.std.proofs.Common.{◌≡◌, ◌-◌, ◌++◌, length, take, drop, min, ap, ◌∙◌, arith}
use Rattle.std.proofs.lemmas.List.{append_assoc}
use Rattle.msf_blocks.specs.Edit.{StreamEdit}
use Rattle.msf_blocks.proofs.Runs.{two_runs}
use Rattle.msf_blocks.proofs.edit.Edit.put_bytes.Goals as goal

pub returns : goal.returns
returns c =
    let front = c.deref.result.now in
    let rest = c.self.inside.rest.now in
    let a = c.min-front_from.result in
    let b = c.min-front_end.result in
    let one = take (b - a) (drop a front) in
    let two = take ((c.args.end - b) - (c.args.from - a)) (drop (c.args.from - a) rest) in
    let is_a : a ≡ min c.args.from (length front) = omega (arith, c.min-front_from.ensures, c.len.ensures, c.deref.ensures.len, ap length c.deref.ensures.value) in
    let is_b : b ≡ min c.args.end (length front) = omega (arith, c.min-front_end.ensures, c.len-2.ensures, c.deref.ensures.len, ap length c.deref.ensures.value) in
    c.in_ok-extend_from_slice-2.ensures.items ∙ ap (λ xs. xs ++ two) c.in_ok-extend_from_slice.ensures.items ∙ append_assoc c.args.to.now.items one two
    ∙ ap (λ xs. c.args.to.now.items ++ xs) (two_runs c.args.from c.args.end a b front rest c.requires.order is_a is_b)
    ∙ ap (λ xs. c.args.to.now.items ++ take (c.args.end - c.args.from) (drop c.args.from (xs ++ rest))) c.deref.ensures.value
    ∙ ap (λ (e : StreamEdit). c.args.to.now.items ++ take (c.args.end - c.args.from) (drop c.args.from e.bytes)) c.self.view_is
