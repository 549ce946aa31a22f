use Rattle.std.proofs.Common.{◌∙◌}
use Rattle.names_table.proofs.Strings.{finds, searches}
use Rattle.names_table.proofs.list.name_at.Goals as goal

pub returns-in-Ok : goal.returns-in-Ok
returns-in-Ok c = c.name_in.ensures ∙ finds c.args.strings.now c.args.starts.now c.args.offset c.in-Ok.place c.requires c.in-Ok.ensures.position

pub returns-in-Err : goal.returns-in-Err
returns-in-Err c = searches c.args.strings.now c.args.starts.now c.args.offset c.in-Err.field-0 c.requires c.in-Err.ensures.position
