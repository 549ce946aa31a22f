use Rattle.std.proofs.Common.{◌≡◌, Ok, sym, ap, ◌∙◌}
use Rattle.std.specs.Prelude.{codes}
use Rattle.info_stream.specs.Named.{age_in, stream_named}
use Rattle.type_store.proofs.Ages.{named_age}
use Rattle.type_store.proofs.open.read_info.Goals as goal

pub unreachable-requires : goal.unreachable-requires
unreachable-requires g c =
    let bytes = c.in_ok-bytes.bytes.items in
    let named : stream_named bytes (codes "/names") ≡ Ok c.in-Ok.number = ap (λ xs. stream_named xs (codes "/names")) (sym c.deref.ensures.value) ∙ sym c.in-Ok.ensures in
    c.in_default.not-Some _ (c.age.ensures ∙ ap age_in c.deref-2.ensures.value ∙ named_age bytes (codes "/names") c.in-Ok.number named)
