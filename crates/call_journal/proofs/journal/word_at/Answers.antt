use Rattle.std.proofs.Common.{◌≡◌, ◌≤◌, ◌*◌, ◌-◌, ◌/◌, ◌%◌, Some, length, ap, sym, ◌∙◌, arith}
use Rattle.std.specs.List.{slice_get}
use Rattle.std.proofs.lemmas.List.Elements.{recursion_from_All}
use Rattle.call_journal.specs.Journal.{IsFull}
use Rattle.call_journal.proofs.Pages.{item_copied, word-behind, word-here}
use Rattle.call_journal.proofs.journal.word_at.Goals as goal

pub returns-in-Some : goal.returns-in-Some
returns-in-Some c =
    let full = c.args.full.now in
    let page = c.in-Some.words.now in
    let i = c.args.i in
    let at : slice_get full (i / 1024) ≡ Some page = sym (item_copied full (i / 1024) (Some c.in-Some.words) c.in-Some.ensures.lookup) in
    c.copied.ensures ∙ item_copied c.deref.result.now (i % 1024) c.get-in-Some.result c.get-in-Some.ensures.lookup ∙ ap (λ ws. slice_get ws (i % 1024)) c.deref.ensures.value
    ∙ sym (word-here full page c.args.page.now (i / 1024) (i % 1024) i (recursion_from_All IsFull full c.requires) at (omega arith) (omega arith))

pub returns-in-None : goal.returns-in-None
returns-in-None c =
    let full = c.args.full.now in
    let i = c.args.i in
    let past : length full ≤ i / 1024 = c.in-None.ensures.lookup.3 in
    c.copied-in-None.ensures ∙ item_copied c.args.page.now (i - 1024 * length full) c.get-in-None.result c.get-in-None.ensures.lookup
    ∙ sym (word-behind full c.args.page.now (i - 1024 * length full) i (recursion_from_All IsFull full c.requires) (omega arith))
