use Rattle.std.proofs.Common.{length, drop, ap, ◌∙◌, arith}
use Rattle.srv_edge.proofs.Numbers.{length-half_bytes, same_half}
use Rattle.request_frames.proofs.client.read_hello.Goals.{then-version-eq0-via-then-version-eq0, then-version-eq0-via-else-version-eq0+then-version-gt2}
use Rattle.request_frames.proofs.client.read_hello.Goals as goal

pub returns-then-body-ne2-clause-bad : goal.returns-then-body-ne2-clause-bad
returns-then-body-ne2-clause-bad c = λ version some few e. omega (arith, ap length e, length-half_bytes version)

pub returns-then-version-eq0-clause-bad : goal.returns-then-version-eq0-clause-bad
returns-then-version-eq0-clause-bad c = λ version some few e.
    let same = same_half version c.half_at-version.result (drop 2 c.args.body.now) (omega (arith, few)) c.half_at-version.type_inv (e ∙ c.half_at-version.ensures) in
    elim c.then-version-eq0.branch [
      | then-version-eq0-via-then-version-eq0 w ↦ omega (arith, some, same, w.if-version-eq0.true)
      | then-version-eq0-via-else-version-eq0+then-version-gt2 w ↦ omega (arith, few, same, w.if-version-gt2.true)
    ]
