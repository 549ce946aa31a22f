use Rattle.std.proofs.Common.{◌++◌, [], ◌∷◌, length, ap, ◌∙◌, arith}
use Rattle.byteorder.specs.Endian.{little_bytes}
use Rattle.names_table.specs.Text.{head_text}
use Rattle.names_table.proofs.Growing.{text_is_put}
use Rattle.names_table.proofs.Offsets.{length-le}
use Rattle.names_table.proofs.write.names_text_from.Goals as goal

pub put_buckets-requires : goal.put_buckets-requires
put_buckets-requires c = omega (arith, ap length c.deref.ensures.value, c.in_ok-buckets.ensures.count, length-le c.args.names.now, c.requires.few)

pub returns : goal.returns
returns c =
    text_is_put c.args.version c.args.names.now c.args.at c.front_bytes-front.result c.strings-strings.result.now c.deref.result.now c.in_ok-text.text.items c.put_rest.new.text.items c.put_buckets.new.text.items c.put_word.new.text.items
    c.requires.inside c.in_ok-text.ensures.items (c.front_bytes-front.ensures ∙ ap (λ n. head_text c.args.version n ++ 0 ∷ []) c.bytes.ensures) c.strings-strings.ensures.strings
    (c.deref.ensures.value ∙ c.in_ok-buckets.ensures.buckets) c.in_ok-put_rest.ensures c.in_ok-put_buckets.ensures (c.in_ok-put_word.ensures ∙ ap (λ n. c.put_buckets.new.text.items ++ little_bytes 4 n) c.len-2.ensures)
