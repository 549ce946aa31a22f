use Rattle.std.proofs.Common.{◌≡◌, ◌++◌, length, drop, ap, ◌∙◌, arith}
use Rattle.srv_edge.specs.Frames.{half_bytes}
use Rattle.srv_edge.proofs.Numbers.{length-half_bytes, same_half}
use Rattle.request_frames.proofs.read.read_hello.Goals as goal

pub returns-then-body-ne2-clause-bad : goal.returns-then-body-ne2-clause-bad
returns-then-body-ne2-clause-bad c = λ version some fits e. omega (arith, ap length e, length-half_bytes version)

pub returns-then-version-eq0-clause-bad : goal.returns-then-version-eq0-clause-bad
returns-then-version-eq0-clause-bad c = λ version some fits e.
    let read : c.args.body.now ≡ half_bytes 0 ++ drop 2 c.args.body.now =
    c.half_at-version.ensures ∙ ap (λ n. half_bytes n ++ drop 2 c.args.body.now) c.if-version-eq0.true in
    omega (arith, same_half version 0 (drop 2 c.args.body.now) fits (omega arith) (e ∙ read))
