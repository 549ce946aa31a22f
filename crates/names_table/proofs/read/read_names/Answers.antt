use Rattle.std.proofs.Common.{inl}
use Rattle.names_table.proofs.Reading.{all_read, strings_are}
use Rattle.names_table.proofs.read.read_names.Goals as goal

pub returns-clause-exact : goal.returns-clause-exact
returns-clause-exact c =
    let stream = c.args.stream.now in
    let h = c.in_ok-version.ensures.ok in
    inl
    (all_read c.args.limits.name_bytes stream c.in_ok-version.version _ c.in_ok-table.table c.append_strings.new.table h.0 h.1 (strings_are stream c.in_ok-version.size h.2)
    c.in_ok-append_strings.ensures.ok.0 c.in_ok-table.ensures c.in_ok-append_strings.ensures.ok.1)
