use Rattle.names_table.proofs.Strings.{ends_before, ends_last}
use Rattle.names_table.proofs.list.end_at.Goals as goal

pub overflow_sub-result : goal.overflow_sub-result
overflow_sub-result c =
    (ends_before c.args.strings.now c.args.starts.now c.args.place c.in-Some.next.now c.requires.strings c.requires.there c.in-Some.ensures.lookup.3.0 (c.in-Some.ensures.lookup.3.1 0)).0

pub returns-in-Some : goal.returns-in-Some
returns-in-Some c =
    let e = (ends_before c.args.strings.now c.args.starts.now c.args.place c.in-Some.next.now c.requires.strings c.requires.there c.in-Some.ensures.lookup.3.0 (c.in-Some.ensures.lookup.3.1 0)).1 in
    record { order = e.order; within = e.within; text = e.text }

pub returns-in-None : goal.returns-in-None
returns-in-None c =
    let e = (ends_last c.args.strings.now c.args.starts.now c.args.place c.requires.strings c.requires.there c.in-None.ensures.lookup.3).1 in
    record { order = e.order; within = e.within; text = e.text }
