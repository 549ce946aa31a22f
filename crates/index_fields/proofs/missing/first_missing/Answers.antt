use Rattle.std.proofs.Common.{None}
use Rattle.index_fields.specs.Fields.{fields_of, missing}
use Rattle.index_fields.proofs.SeenLemmas.{missing_seen}
use Rattle.index_fields.proofs.missing.first_missing.Goals as goal

pub returns : goal.returns
unfolding missing
returns c =
    missing_seen (fields_of c.args.space c.args.bytes.now) (record { types = c.args.types; items = c.args.items; missing = None }) c.each_field.new.visit
    c.each_field.ensures
