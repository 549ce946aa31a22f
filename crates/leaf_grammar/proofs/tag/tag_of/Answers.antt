use Rattle.std.proofs.Common.{ap, sym, ◌∙◌}
use Rattle.std.specs.Prelude.{is_ok}
use Rattle.leaf_grammar.specs.Tag.{is_tag}
use Rattle.leaf_grammar.proofs.TagLemmas.{no_tag_by_kind, no_tag_by_length}
use Rattle.leaf_grammar.proofs.TextLemmas.{leaf_places}
use Rattle.leaf_grammar.proofs.tag.tag_of.Goals as goal
use Rattle.leaf_grammar.proofs.tag.tag_of.Goals.{then-bytes-lt8-via-then-bytes-lt8, then-bytes-lt8-via-else-bytes-lt8+then-not-is_tag}

pub returns-then-bytes-lt8 : goal.returns-then-bytes-lt8
returns-then-bytes-lt8 c =
    let r = c.args.bytes.now in
    elim c.then-bytes-lt8.branch [
      | then-bytes-lt8-via-then-bytes-lt8 w ↦ no_tag_by_length r w.if-bytes-lt8.true
      | then-bytes-lt8-via-else-bytes-lt8+then-not-is_tag w ↦
          no_tag_by_kind r (ap is_tag (sym w.record_kind.ensures) ∙ sym w.if-not-is_tag.ensures)
    ]

pub read_tag-requires-clause-places : goal.read_tag-requires-clause-places
read_tag-requires-clause-places c =
    leaf_places c.args.bytes.now c.walk_forms.new.visit (ap is_ok (sym c.walk_forms.ensures.leaf) ∙ sym c.if-is_ok.ensures.value) c.walk_forms.ensures.visits
