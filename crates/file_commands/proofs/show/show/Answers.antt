use Rattle.std.proofs.Common.{◌≡◌, ◌∙◌, ℕ, IsTrue, Ok, sym, ap, subst}
use Rattle.srv_edge.specs.declared.limit.TheConstants.{MOST_BLOCKS}
use Rattle.msf_image.specs.Reads.{read_file}
use Rattle.table_model.specs.Bounds.{standard}
use Rattle.table_model.specs.Cut.{Cut}
use Rattle.table_model.specs.File.{newest_cut}
use Rattle.type_store.specs.Commits.{Holds}
use Rattle.type_store.specs.Files.{cut_of}
use Rattle.type_store.specs.Views.{tables_in}
use Rattle.file_commands.proofs.Printing.{fault_printed, file_printed}
use Rattle.file_commands.proofs.show.show.Goals as goal

pub returns-in-Ok-clause-printed : goal.returns-in-Ok-clause-printed
returns-in-Ok-clause-printed g c =
    let file = c.in-Ok.file in
    let tables = tables_in c.in-Ok.tables in
    let seen = g.D.Device.seen c.args.device in
    let cut = cut_of (newest_cut file.file).number tables in
    let settled_is = c.in-Ok.ensures.opened.file in
    let newest : newest_cut file.file ≡ cut = ap newest_cut settled_is ∙ ap (λ (n : ℕ). cut_of n tables) (sym (ap (λ f. (newest_cut f).number) settled_is)) in
    let told : IsTrue g.D.Device.tells → (read_file seen MOST_BLOCKS ≡ Ok file.image) × Holds standard seen cut =
    λ tells. let t = c.in-Ok.ensures.told tells in (t.0, subst (λ (x : Cut). Holds standard seen x) newest t.1)
    in
    file_printed g.D.Device g.K.Sink c.args.what c.args.device c.args.sink.now c.show_file-status.new.sink c.show_file-status.result file.image cut told
    c.show_file-status.ensures.printed

pub returns-in-Err-clause-printed : goal.returns-in-Err-clause-printed
returns-in-Err-clause-printed g c =
    fault_printed g.D.Device g.K.Sink c.args.what c.args.device c.args.sink.now c.show_fault.new.sink c.show_fault.result c.in-Err.fault c.in-Err.ensures.told
    c.show_fault.ensures.printed
