use Rattle.std.proofs.Common.{sym}
use Rattle.leaf_grammar.proofs.Rooms.{form_ok, where_ok}
use Rattle.leaf_grammar.proofs.walk.show.Goals as goal

pub form-requires-clause-whole : goal.form-requires-clause-whole
form-requires-clause-whole g c = form_ok c.in-Always.form c.args.bytes.now c.args.from (rw c.in-Always.is at c.requires.whole)

pub form-requires-then-holds-clause-whole : goal.form-requires-then-holds-clause-whole
form-requires-then-holds-clause-whole g c =
    where_ok c.in-Where.condition c.in-Where.form c.args.bytes.now c.args.from (sym c.if-holds.ensures) (rw c.in-Where.is at c.requires.whole)
