use Rattle.std.proofs.Common.{◌≡◌, ◌++◌, ◌-◌, [], ◌∷◌, ap, ◌∙◌, arith}
use Rattle.std.proofs.lemmas.List.{append-nil}
use Rattle.std.proofs.lemmas.Grind.{common_steps}
use Rattle.std.specs.Vec.{vec_len}
use Rattle.call_journal.specs.Journal.{words_in}
use Rattle.call_journal.proofs.Pages.{words_in-push}
use Rattle.call_journal.proofs.journal.turn_to_room.Goals as goal

pub returns-clause-words : goal.returns-clause-words
returns-clause-words c =
    let next = c.unwrap-next.result in
    let filled = c.replace-filled.result in
    let full = c.args.full.now.items in
    let last = c.pop.ensures.value next (omega arith) in
    let blank = c.requires.order.all_blank (vec_len c.args.blank.now - 1) next (grind arith) in
    let none : next.items ≡ [] = grind arith in
    let more : c.push.new.self.items ≡ full ++ filled ∷ [] = grind (arith, common_steps) in
    ap (λ pages. words_in pages ++ c.replace-filled.new.dest.items) more
    ∙ ap (λ ws. ws ++ c.replace-filled.new.dest.items) (words_in-push full filled)
    ∙ ap (λ v. (words_in full ++ filled.items) ++ v.items) c.replace-filled.ensures.after
    ∙ ap (λ ws. (words_in full ++ filled.items) ++ ws) none ∙ append-nil (words_in full ++ filled.items)
    ∙ ap (λ v. words_in full ++ v.items) c.replace-filled.ensures.value
