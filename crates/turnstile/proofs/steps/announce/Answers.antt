use Rattle.std.proofs.Common.{◌≡◌, ◌+◌, length, arith, ap, sym, subst, ◌∙◌, length-append}
use Rattle.turnstile.proofs.Turns.{files}
use Rattle.turnstile.proofs.steps.announce.Goals as goal

pub compare_exchange_with-requires : goal.compare_exchange_with-requires
compare_exchange_with-requires g c =
    let some_entry : length (g.V.Historied.entries c.args.value.now) ≡ length c.args.chair.now.me.0.seen + 1 = ap length c.requires.entry.3 ∙ length-append c.args.chair.now.me.0.seen _ in (
      c.requires.table.0,
      omega arith,
      files g.V.Historied.basis g.V.Historied.entries g.V.Historied.law _ _ _ _ _ _ c.of.result c.requires.entry.1 _ _ c.requires.entry.2 c.requires.loaded.1
          (ap g.V.Historied.basis c.of.ensures ∙ c.requires.basis)
          (ap g.V.Historied.entries c.of.ensures ∙ c.requires.entry.3)
          c.requires.entry.4
          (subst (λ (v : _). g.V.Historied.law (g.V.Historied.basis v) (g.V.Historied.entries v)) (sym c.of.ensures) c.filed.ensures.lawful)
          (c.from-count.ensures ∙ c.filed.ensures.count ∙ ap (λ (v : _). length (g.V.Historied.entries v)) (sym c.of.ensures))
          (omega arith)
          (omega arith),
    )
