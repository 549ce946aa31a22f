use Rattle.std.proofs.Common.{◌≡◌, ◌∙◌, subst}
use Rattle.std.specs.Prelude.{IfOk}
use Rattle.msf_image.proofs.PackedLoops.{packed_of}
use Rattle.msf_image.proofs.packed.lay_file.Goals as goal

pub returns : goal.returns
returns c =
    let same =
    packed_of c.args.block c.args.streams.now c.in_ok-new.new.image c.deref.result.now c.deref-2.result.now c.in_ok-new.ensures.image (c.deref.ensures.value ∙ c.in_ok-map.ensures.text) (c.deref-2.ensures.value ∙ c.in_ok-new.ensures.content) in
    subst (λ t. IfOk c.file_of.result (λ file. file.items ≡ t)) same c.file_of.ensures
