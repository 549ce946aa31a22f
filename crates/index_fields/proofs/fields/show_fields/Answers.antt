use Rattle.std.proofs.Common.{List, subst, sym}
use Rattle.leaf_grammar.specs.Found.{forms_of}
use Rattle.leaf_grammar.specs.Visits.{Visits}
use Rattle.leaf_grammar.proofs.Flat.{in_placed}
use Rattle.leaf_grammar.proofs.Visiting.{visits_flat}
use Rattle.index_fields.specs.Fields.{Field, fields_in}
use Rattle.index_fields.proofs.Steps.{fields_flat}
use Rattle.index_fields.proofs.fields.show_fields.Goals as goal

pub returns-clause-visits : goal.returns-clause-visits
returns-clause-visits g c =
    let r = c.args.bytes.now in
    let space = c.args.space in
    let before = c.args.fields.now in
    let after = c.walk_forms.new.visit in
    let does = g.V.Visit.does in
    let All : List Field → Type 0 = λ fields. Visits does fields before.visit.now after.visit.now in
    subst All (sym (fields_flat space r c.requires.leaf))
    (visits_flat _ does (λ f. f.visit.now) (in_placed fields_in r) (λ a p b h. h) (forms_of space r) before after c.walk_forms.ensures.visits)
