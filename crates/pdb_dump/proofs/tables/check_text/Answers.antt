use Rattle.std.proofs.Common.{◌≡◌, ◌++◌, ℕ, List, ap, ◌∙◌}
use Rattle.msf_image.specs.declared.image.Image.{Image}
use Rattle.type_store.specs.Files.{cut_of}
use Rattle.type_store.specs.Views.{tables_in}
use Rattle.pdb_dump.specs.Container.{container_text}
use Rattle.pdb_dump.specs.Dump.{tables_text}
use Rattle.pdb_dump.proofs.tables.check_text.Goals as goal

pub returns : goal.returns
returns g c =
    let line_for = λ (age : ℕ). tables_text (cut_of age (tables_in c.args.tables.now)) in
    let line : c.deref.result.now ≡ line_for c.age.result = c.deref.ensures.value ∙ c.in_ok-line.ensures in
    let text : c.in_ok-text.text.items ≡ container_text c.image.result.now = c.in_ok-text.ensures in
    c.in_ok-extend_from_slice.ensures.items ∙ ap (λ (x : List ℕ). x ++ c.deref.result.now) (text ∙ ap (λ (image : Image). container_text image) c.image.ensures.image)
    ∙ ap (λ (x : List ℕ). container_text c.args.file.now.image ++ x) (line ∙ ap line_for c.age.ensures.age)
