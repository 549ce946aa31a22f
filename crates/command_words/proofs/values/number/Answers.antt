use Rattle.std.proofs.Common.{◌∙◌, ◌≢◌, get_or, ap, inr, refl, arith}
use Rattle.std.proofs.lemmas.Str.Parse.{numerals_by_value, parse_plain, tells_all_ascii_digits}
use Rattle.command_words.proofs.ReadValues.{between, number_by, number_told}
use Rattle.command_words.proofs.values.number.Goals as goal

pub returns-in-Ok : goal.returns-in-Ok
returns-in-Ok c =
    let text = c.args.text.now in
    let plain : get_or text 0 0 ≢ 43 = λ is. c.if-as_bytes-eq43.false (ap (λ t. get_or t 0 0) c.as_bytes.ensures.value ∙ is) in
    let told = number_told c.args.least c.args.most text c.parse.result (omega (arith, c.ranges.most.fits)) (omega (arith, c.if-text-gt10.false))
    (parse_plain (numerals_by_value _ tells_all_ascii_digits) 32 text c.parse.result c.parse.ensures.value.0 plain) in
    told ∙ ap (number_by c.args.least c.args.most) c.in-Ok.is ∙ between c.args.least c.args.most c.in-Ok.value c.if-least-value.true c.if-value-most.true

pub returns-in_default-3 : goal.returns-in_default-3
returns-in_default-3 c =
    let text = c.args.text.now in
    let plain : get_or text 0 0 ≢ 43 = λ is. c.if-as_bytes-eq43.false (ap (λ t. get_or t 0 0) c.as_bytes.ensures.value ∙ is) in
    let told = number_told c.args.least c.args.most text c.parse.result (omega (arith, c.ranges.most.fits)) (omega (arith, c.if-text-gt10.false))
    (parse_plain (numerals_by_value _ tells_all_ascii_digits) 32 text c.parse.result c.parse.ensures.value.0 plain) in
    inr (refl, told ∙ ap (number_by c.args.least c.args.most) c.in_default.is)
