use Rattle.std.proofs.Common.{◌≡◌, [], ◌∷◌, Ok, Err, Result, rules, refl, sym, ap, subst, ◌∙◌}
use Rattle.leaf_grammar.specs.declared.grammar.Space.TheVariants.{Types, Items}
use Rattle.committer.specs.Stored.{newest}
use Rattle.table_model.specs.Bounds.{bounds_of}
use Rattle.type_store.specs.Commits.{contents_of}
use Rattle.type_store.specs.Holds.{Contents, holding, info_in, names_held, records_held}
use Rattle.type_store.proofs.Chain.{all_held, handed, kept_same, no_items, no_names, no_types, reads_on, same_contents, tables_same, told_on}
use Rattle.type_store.proofs.Gathered.{gathered_on}
use Rattle.type_store.proofs.open.read_streams.Goals as goal

pub returns-in_err-type_header-clause-damage : goal.returns-in_err-type_header-clause-damage
returns-in_err-type_header-clause-damage g c = λ tells.
    let bounds = bounds_of c.args.limits in
    let contents = contents_of (g.D.Device.seen c.args.store.now.device) (newest c.args.store.now.file) in
    let same = same_contents g.D.Device _ _ c.in_ok-info.ensures.only_reads in
    handed c.from_residual-in_err-type_header.result c.in_err-type_header.field-0.0 (λ d. holding bounds contents ≡ Err d) (search rules)
    (told_on c.in_err-type_header.field-0.0 _ _ (λ d is. no_types bounds contents _ _ d same (c.in_ok-info.ensures.told tells) is) (c.in_err-type_header.ensures.told tells))

pub returns-in_err-item_header-clause-only_reads : goal.returns-in_err-item_header-clause-only_reads
returns-in_err-item_header-clause-only_reads g c =
    reads_on g.D.Device g.met.D.Device.counts_now _ _ _ (reads_on g.D.Device g.met.D.Device.counts_now _ _ _ c.in_ok-info.ensures.only_reads c.in_ok-type_header.ensures.only_reads) c.in_err-item_header.ensures.only_reads

pub returns-in_err-item_header-clause-damage : goal.returns-in_err-item_header-clause-damage
returns-in_err-item_header-clause-damage g c = λ tells.
    let counts = g.met.D.Device.counts_now in
    let bounds = bounds_of c.args.limits in
    let contents = contents_of (g.D.Device.seen c.args.store.now.device) (newest c.args.store.now.file) in
    let one = c.in_ok-info.ensures.only_reads in
    let two = reads_on g.D.Device counts _ _ _ one c.in_ok-type_header.ensures.only_reads in
    handed c.from_residual-in_err-item_header.result c.in_err-item_header.field-0.0 (λ d. holding bounds contents ≡ Err d) (search rules)
    (told_on c.in_err-item_header.field-0.0 _ _ (λ d is. no_items bounds contents _ _ _ _ _ d (same_contents g.D.Device _ _ one) (same_contents g.D.Device _ _ two) c.from-type_hashes.ensures
    (c.in_ok-info.ensures.told tells) (c.in_ok-type_header.ensures.told tells) is) (c.in_err-item_header.ensures.told tells))

pub returns-in_err-names-clause-only_reads : goal.returns-in_err-names-clause-only_reads
returns-in_err-names-clause-only_reads g c =
    let counts = g.met.D.Device.counts_now in
    reads_on g.D.Device counts _ _ _ (reads_on g.D.Device counts _ _ _ (reads_on g.D.Device counts _ _ _ c.in_ok-info.ensures.only_reads c.in_ok-type_header.ensures.only_reads) c.in_ok-item_header.ensures.only_reads)
    c.in_err-names.ensures.only_reads

pub returns-in_err-base-clause-only_reads : goal.returns-in_err-base-clause-only_reads
returns-in_err-base-clause-only_reads g c =
    let counts = g.met.D.Device.counts_now in
    reads_on g.D.Device counts _ _ _ (reads_on g.D.Device counts _ _ _ (reads_on g.D.Device counts _ _ _ c.in_ok-info.ensures.only_reads c.in_ok-type_header.ensures.only_reads) c.in_ok-item_header.ensures.only_reads)
    c.in_ok-names.ensures.only_reads

pub returns-clause-only_reads : goal.returns-clause-only_reads
returns-clause-only_reads g c =
    let counts = g.met.D.Device.counts_now in
    reads_on g.D.Device counts _ _ _ (reads_on g.D.Device counts _ _ _ (reads_on g.D.Device counts _ _ _ c.in_ok-info.ensures.only_reads c.in_ok-type_header.ensures.only_reads) c.in_ok-item_header.ensures.only_reads)
    c.in_ok-names.ensures.only_reads

pub returns-in_err-names-clause-damage : goal.returns-in_err-names-clause-damage
returns-in_err-names-clause-damage g c = λ tells.
    let counts = g.met.D.Device.counts_now in
    let bounds = bounds_of c.args.limits in
    let contents = contents_of (g.D.Device.seen c.args.store.now.device) (newest c.args.store.now.file) in
    let one = c.in_ok-info.ensures.only_reads in
    let two = reads_on g.D.Device counts _ _ _ one c.in_ok-type_header.ensures.only_reads in
    let three = reads_on g.D.Device counts _ _ _ two c.in_ok-item_header.ensures.only_reads in
    handed c.from_residual-in_err-names.result c.in_err-names.field-0.0 (λ d. holding bounds contents ≡ Err d) (search rules)
    (told_on c.in_err-names.field-0.0 _ _ (λ d is. no_names bounds contents _ _ _ _ _ _ _ _ (same_contents g.D.Device _ _ one) (same_contents g.D.Device _ _ two) (same_contents g.D.Device _ _ three)
    c.from-type_hashes.ensures c.from.ensures (c.in_ok-info.ensures.told tells) (c.in_ok-type_header.ensures.told tells) (c.in_ok-item_header.ensures.told tells) d is) (c.in_err-names.ensures.told tells))

pub returns-clause-holds : goal.returns-clause-holds
returns-clause-holds g c = λ tells.
    let counts = g.met.D.Device.counts_now in
    let bounds = bounds_of c.args.limits in
    let contents = contents_of (g.D.Device.seen c.args.store.now.device) (newest c.args.store.now.file) in
    let one = c.in_ok-info.ensures.only_reads in
    let two = reads_on g.D.Device counts _ _ _ one c.in_ok-type_header.ensures.only_reads in
    let three = reads_on g.D.Device counts _ _ _ two c.in_ok-item_header.ensures.only_reads in record {
      held = _;
      holds = all_held bounds contents _ _ _ _ _ _ _ _ (same_contents g.D.Device _ _ one) (same_contents g.D.Device _ _ two) (same_contents g.D.Device _ _ three)
          c.from-type_hashes.ensures c.from.ensures (c.in_ok-info.ensures.told tells) (c.in_ok-type_header.ensures.told tells) (c.in_ok-item_header.ensures.told tells) c.in_ok-names.names (c.in_ok-names.ensures.told tells);
      info_stream = c.in_ok-info.ensures.content tells;
      kept_are = kept_same c.in_ok-info.info.names_stream c.kept_of.ensures c.kept_of-2.ensures;
      age_is = refl;
      tables_are = tables_same c.in_ok-names.names c.in_ok-type_header.ensures.table c.in_ok-item_header.ensures.table;
    }

pub returns-clause-read : goal.returns-clause-read
returns-clause-read g c =
    let counts = g.met.D.Device.counts_now in
    let one = c.in_ok-info.ensures.only_reads in
    let two = reads_on g.D.Device counts _ _ _ one c.in_ok-type_header.ensures.only_reads in
    let three = reads_on g.D.Device counts _ _ _ two c.in_ok-item_header.ensures.only_reads in
    gathered_on (bounds_of c.args.limits) c.args.store.now.file _ _ _ c.in_ok-info.info.bytes.items c.in_ok-info.info.names_stream c.in_ok-info.info.age c.in_ok-type_header.type_header c.in_ok-item_header.item_header
    _ _ c.in_ok-type_header.types c.in_ok-item_header.items c.in_ok-names.names _ _ one.file two.file three.file c.from-type_hashes.ensures c.from.ensures c.kept_of.ensures c.kept_of-2.ensures
    c.in_ok-type_header.ensures.table c.in_ok-item_header.ensures.table c.in_ok-info.ensures.found c.in_ok-type_header.ensures.found c.in_ok-item_header.ensures.found c.in_ok-names.ensures.found
