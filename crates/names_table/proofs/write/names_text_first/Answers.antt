use Rattle.std.proofs.Common.{◌++◌, [], ◌∷◌, take, sym, ap, ◌∙◌}
use Rattle.names_table.specs.Text.{head_text}
use Rattle.names_table.proofs.Growing.{first_is_put}
use Rattle.names_table.proofs.write.names_text_first.Goals as goal

pub returns : goal.returns
returns c =
    first_is_put c.args.version c.args.names.now c.args.count c.front_bytes-front.result c.strings.result.now c.in_ok-text.text.items c.put_first.new.text.items c.requires.inside c.in_ok-text.ensures.items
    (c.front_bytes-front.ensures ∙ ap (λ n. head_text c.args.version n ++ 0 ∷ []) c.bytes.ensures) c.strings.ensures.strings c.in_ok-put_first.ensures
