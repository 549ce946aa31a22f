use Rattle.std.proofs.Common.{◌∙◌, arith}
use Rattle.msf_blocks.proofs.SuperblockTexts.{found, told_again}
use Rattle.msf_blocks.proofs.superblock.read_super.Goals as goal

pub returns-clause-passes : goal.returns-clause-passes
returns-clause-passes c =
    found c.args.bytes.now c.args.file_len c.args.limit c.judged.result _ (λ i. omega (arith, c.type_inv.bytes i)) c.judged.ensures (λ s f. f.is_super)

pub returns-clause-text : goal.returns-clause-text
returns-clause-text c =
    found c.args.bytes.now c.args.file_len c.args.limit c.judged.result _ (λ i. omega (arith, c.type_inv.bytes i)) c.judged.ensures (λ s f. f.text)

pub returns-clause-limited : goal.returns-clause-limited
returns-clause-limited c =
    found c.args.bytes.now c.args.file_len c.args.limit c.judged.result _ (λ i. omega (arith, c.type_inv.bytes i)) c.judged.ensures (λ s f. f.limited)

pub returns-clause-inside : goal.returns-clause-inside
returns-clause-inside c =
    found c.args.bytes.now c.args.file_len c.args.limit c.judged.result _ (λ i. omega (arith, c.type_inv.bytes i)) c.judged.ensures (λ s f. f.inside)

pub returns-clause-only : goal.returns-clause-only
returns-clause-only c = λ s is text limited inside.
    c.judged.ensures ∙ told_again c.args.bytes.now c.args.file_len c.args.limit s (record { is_super = is; text = text; limited = limited; inside = inside })
