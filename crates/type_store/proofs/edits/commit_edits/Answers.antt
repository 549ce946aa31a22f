use Rattle.std.proofs.Common.{ap, codes, arith}
use Rattle.names_table.specs.Names.{Names, bytes_of}
use Rattle.type_store.proofs.Building.{old_name_bytes}
use Rattle.type_store.proofs.Named.{named_long}
use Rattle.type_store.proofs.edits.commit_edits.Goals as goal

pub info_edit-requires-clause-long : goal.info_edit-requires-clause-long
info_edit-requires-clause-long c = named_long c.args.info.now (codes "/names") c.args.kept.now.names_stream c.requires.kept.names

pub put_names-requires-clause-base : goal.put_names-requires-clause-base
put_names-requires-clause-base c =
    let few = old_name_bytes c.args.old.now c.args.cut.now.tables c.requires.base in
    omega (arith, few, ap (λ (t : Names). bytes_of t.names) c.names.ensures)
