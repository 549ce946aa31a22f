use Rattle.std.proofs.Common.{◌<◌, sym, subst}
use Rattle.std.proofs.lemmas.List.Elements.{recursion_from_All}
use Rattle.stream_directory.specs.Directory.{absent_size}
use Rattle.cow_streams.proofs.Editing.{len_short}
use Rattle.cow_streams.proofs.laying.lay_one.Goals as goal

pub new-requires : goal.new-requires
new-requires c =
    subst (λ n. n < absent_size) (sym c.len_after-size.ensures) (len_short c.args.edits.now c.args.i c.size.result (recursion_from_All (λ e. e.len < absent_size) c.args.edits.now c.requires.short) c.size.ensures.present)
