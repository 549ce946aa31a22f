use Rattle.std.proofs.Common.{◌≡◌, ◌≤◌, ◌+◌, length, length-append, ap, ◌∙◌, arith}
use Rattle.std.proofs.lemmas.Grind.{common_steps}
use Rattle.std.proofs.lemmas.List.Elements.{recursion_from_All}
use Rattle.std.specs.Vec.{vec_len, vec_capacity}
use Rattle.call_journal.specs.Journal.{IsFull, words_in}
use Rattle.call_journal.proofs.Pages.{length-words_in}
use Rattle.call_journal.proofs.journal.Journal.push.Goals as goal

-- the page was opened: it has room
opened : (c : goal.After-unwrap) → 1024 ≤ vec_capacity c.turn_to_room.new.page
opened c = let first = c.turn_to_room.ensures.order.first in let room = c.turn_to_room.ensures.room in grind arith

-- a word more on it
longer : (c : goal.After-unwrap) → vec_len c.push.new.self ≡ vec_len c.turn_to_room.new.page + 1
longer c = grind (arith, common_steps)

pub invariant_of-self : goal.invariant_of-self
invariant_of-self c =
    let order = c.turn_to_room.ensures.order in
    let full = c.turn_to_room.new.full.items in
    let page = c.turn_to_room.new.page.items in
    let had = length-words_in full (recursion_from_All IsFull full order.all_full) in
    let open_page = opened c in
    let more = longer c in
    let capacity = c.push.ensures.capacity in
    let same = ap length c.turn_to_room.ensures.words ∙ ap (λ j. length j.words) c.self.view_is in
    record {
      all_full = order.all_full;
      all_blank = order.all_blank;
      within = grind arith;
      first = λ small. absurd (omega arith);
      room = order.room;
      few_words = omega (arith, length-append (words_in full) page);
    }

pub returns-clause-spare : goal.returns-clause-spare
returns-clause-spare c =
    let open_page = opened c in
    let more = longer c in
    let capacity = c.push.ensures.capacity in
    let room = c.turn_to_room.ensures.room in
    rw (← c.self.view_is) (grind arith)
