use Rattle.std.proofs.Common.{◌≡◌, ◌≤◌, ◌&&◌, ℕ, Bool, true, false, nat_le, Err, Result, refl, sym, ap, subst, ◌∙◌, arith}
use Rattle.std.proofs.lemmas.Bool.{leb-true}
use Rattle.msf_blocks.specs.Judging.{Tells}
use Rattle.msf_image.specs.declared.fault.Damage.{Damage}
use Rattle.msf_image.specs.Faults.{damage_in}
use Rattle.names_table.specs.Names.{Names}
use Rattle.committer.specs.Stored.{newest}
use Rattle.table_model.specs.Bounds.{bounds_of}
use Rattle.type_store.specs.Commits.{contents_of}
use Rattle.type_store.specs.Opening.{is_apart_in}
use Rattle.type_store.proofs.Readings.{apart_is, names_judged, names_not_apart}
use Rattle.type_store.proofs.open.read_name_table.Goals as goal

first : (a b : Bool) → (a && b) ≡ true → a ≡ true
first true b is = refl
first false b is = absurd cc

pub read_names_at-requires-clause-behind_first : goal.read_names_at-requires-clause-behind_first
read_names_at-requires-clause-behind_first g c =
    let apart : is_apart_in (newest c.args.store.now.file).directory c.args.others.now c.args.number ≡ true = sym c.if-not-is_apart.ensures in
    let five : 5 ≤ c.args.number = leb-true 5 c.args.number (first (nat_le 5 c.args.number) _ apart) in omega arith

pub returns-then-not-is_apart-clause-told : goal.returns-then-not-is_apart-clause-told
returns-then-not-is_apart-clause-told g c = λ tells.
    let file = g.D.Device.seen c.args.store.now.device in
    let image = newest c.args.store.now.file in
    let apart = apart_is file image c.args.others.now c.args.number ∙ sym c.if-not-is_apart.ensures in
    let judged = names_not_apart (bounds_of c.args.limits) (contents_of file image) c.args.others.now c.args.number apart in
    rw c.from.ensures (judged ∙ ap (λ d. Err d) (sym c.names_absent.ensures))

pub returns-clause-told : goal.returns-clause-told
returns-clause-told g c = λ tells.
    let file = g.D.Device.seen c.args.store.now.device in
    let image = newest c.args.store.now.file in
    let apart = apart_is file image c.args.others.now c.args.number ∙ sym c.if-not-is_apart.ensures in
    let judged = names_judged (bounds_of c.args.limits) (contents_of file image) c.args.others.now c.args.number apart in
    subst (λ (r : Result Names Damage). Tells damage_in (λ names. names) c.read_names_at.result r) (sym judged) (c.read_names_at.ensures.told tells)
