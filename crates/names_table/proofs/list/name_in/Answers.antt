use Rattle.std.proofs.Common.{sym, arith}
use Rattle.std.proofs.lemmas.Option.{slice_get_past}
use Rattle.names_table.specs.Strings.{names_cut}
use Rattle.names_table.proofs.Strings.{length-begin, named, place}
use Rattle.names_table.proofs.list.name_in.Goals as goal

pub returns-then-place-starts : goal.returns-then-place-starts
returns-then-place-starts c =
    let few = length-begin c.args.strings.now c.args.starts.now c.requires in
    sym (slice_get_past (names_cut c.args.strings.now) c.args.place (omega (arith, few, c.if-place-starts.true)))

pub overflow_sub-start : goal.overflow_sub-start
overflow_sub-start c = (place c.args.strings.now c.args.starts.now c.args.place c.requires c.if-place-starts.false).begins

pub returns : goal.returns
returns c = named c.args.strings.now c.args.starts.now c.args.place c.end_at-end.result c.requires c.if-place-starts.false c.end_at-end.ensures.text
