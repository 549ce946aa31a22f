use Rattle.std.proofs.Common.{length-append, arith}
use Rattle.std.proofs.lemmas.List.Elements.{recursion_from_All}
use Rattle.call_journal.specs.Journal.{IsFull, words_in}
use Rattle.call_journal.proofs.Pages.{length-words_in}
use Rattle.call_journal.proofs.journal.Journal.len.Goals as goal

pub returns-clause-count : goal.returns-clause-count
returns-clause-count c =
    let full = c.self.inside.full.items in
    let there = length-words_in full (recursion_from_All IsFull full c.self.invariant.all_full) in
    rw (← c.self.view_is) (omega (arith, there, length-append (words_in full) c.self.inside.page.items))

pub returns-clause-few : goal.returns-clause-few
returns-clause-few c =
    let full = c.self.inside.full.items in
    let there = length-words_in full (recursion_from_All IsFull full c.self.invariant.all_full) in
    rw (← c.self.view_is) (omega (arith, there, length-append (words_in full) c.self.inside.page.items, c.self.invariant.few_words))
