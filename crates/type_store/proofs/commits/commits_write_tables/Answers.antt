use Rattle.std.proofs.Common.{arith}
use Rattle.msf_blocks.proofs.Sizes.{sized}
use Rattle.type_store.specs.Commit.{commit_edits, extent_of}
use Rattle.type_store.specs.Committed.{edited_contents}
use Rattle.type_store.specs.Written.{written_held}
use Rattle.type_store.proofs.Leaving.{base_goes_on, base_stands, commit_leaves}
use Rattle.type_store.proofs.Sizes.{committed_sizes}
use Rattle.type_store.proofs.commits.commits_write_tables.Goals as goal

pub returns-clause-written : goal.returns-clause-written
returns-clause-written c = λ limits size first_age age next fresh kept info first old tables opened contents block can h base on.
    let new = edited_contents (commit_edits size kept (extent_of fresh old) info next tables) contents in
    let least = (sized size block).least in
    base_goes_on fresh kept info age next first old tables opened contents new base
    (commit_leaves size fresh kept info next old tables contents (omega (arith, least)) can on (base_stands fresh limits kept info first_age age first old opened contents h base))

pub returns-clause-held : goal.returns-clause-held
returns-clause-held c = λ limits kept info age tables opened contents can within small is. record {
  held = written_held kept age tables;
  holds = c.written_tables_are_held.ensures.held limits kept info age tables contents can within small is.written;
  info_stream = is.written.info_stream;
  kept_are = c.written_tables_are_held.ensures.kept kept age tables;
  age_is = c.written_tables_are_held.ensures.age kept age tables;
  tables_are = c.written_tables_are_held.ensures.tables limits kept age tables within;
}

pub returns-clause-sizes : goal.returns-clause-sizes
returns-clause-sizes c = λ limits block blocks first_age age kept info first tables opened contents can h is. committed_sizes block blocks kept info age tables opened contents can h.info_stream is
