use Rattle.std.proofs.Common.{◌≡◌, ◌≤◌, ℕ, true, false, List, length, get_or, take, Some, refl, sym, ap, ◌∙◌}
use Rattle.std.proofs.lemmas.List.{take_all}
use Rattle.core_model.specs.declared.state.ReplayState.{ReplayState}
use Rattle.core_model.specs.Replay.{Lists}
use Rattle.core_model.specs.Steps.{HasStart, state_after, first_state}
use Rattle.core_model.proofs.Judging.{further, leads_not_past, leads_not_whole, leads_not_without, take-next, wrong_at, wrong_behind, wrong_from_start}
use Rattle.core_model.proofs.Tracing.{passes_to}
use Rattle.core_model.proofs.judge.replay.Goals as goal

pub returns-then-not-has_start-clause-legal : goal.returns-then-not-has_start-clause-legal
returns-then-not-has_start-clause-legal c =
    let lists : Lists = record { types = c.args.types.now; items = c.args.items.now; names = c.args.names.now } in
    let lacks : ¬ HasStart lists c.args.start = λ has. (let no : false ≡ true = c.if-not-has_start.ensures.1 has in cc) in
    (λ same. absurd cc, λ leads. absurd (leads_not_without c.args.start c.args.words.now lists lacks leads))

pub returns-then-not-has_start-clause-least : goal.returns-then-not-has_start-clause-least
returns-then-not-has_start-clause-least c =
    let lists : Lists = record { types = c.args.types.now; items = c.args.items.now; names = c.args.names.now } in
    let lacks : ¬ HasStart lists c.args.start = λ has. (let no : false ≡ true = c.if-not-has_start.ensures.1 has in cc) in
    wrong_from_start c.args.start c.args.words.now lists lacks

pub returns-in-None-clause-legal : goal.returns-in-None-clause-legal
returns-in-None-clause-legal c =
    let lists : Lists = record { types = c.args.types.now; items = c.args.items.now; names = c.args.names.now } in
    (λ same. absurd cc, λ leads. absurd (leads_not_past c.args.start c.args.words.now lists c.loop-at.state c.loop-at.at c.loop-at-test.true c.loop-at.invariant (sym c.next_state.ensures ∙ c.in-None.is) leads))

pub returns-in-None-clause-least : goal.returns-in-None-clause-least
returns-in-None-clause-least c =
    let lists : Lists = record { types = c.args.types.now; items = c.args.items.now; names = c.args.names.now } in
    let has : HasStart lists c.args.start = c.if-not-has_start.ensures.0 refl in
    wrong_at c.args.start c.args.words.now lists c.loop-at.state c.loop-at.at has c.loop-at-test.true c.loop-at.invariant (sym c.next_state.ensures ∙ c.in-None.is)

pub loop-at-preserved : goal.loop-at-preserved
loop-at-preserved c =
    let lists : Lists = record { types = c.args.types.now; items = c.args.items.now; names = c.args.names.now } in
    let words = c.args.words.now in
    let at = c.loop-at.at in
    ap (state_after lists (first_state c.args.start)) (take-next words at c.loop-at-test.true)
    ∙ further lists (first_state c.args.start) c.loop-at.state c.in-Some.further (take at words) (get_or words at 0) c.loop-at.invariant (sym c.next_state.ensures ∙ c.in-Some.is)

-- all words passed
all_passed : (words : List ℕ) (lists : Lists) (start q : ReplayState) (at : ℕ) → length words ≤ at → state_after lists start (take at words) ≡ Some q → state_after lists start words ≡ Some q
all_passed words lists start q at past e = ap (state_after lists start) (sym (take_all at words past)) ∙ e

pub returns-then-is_end-clause-legal : goal.returns-then-is_end-clause-legal
returns-then-is_end-clause-legal c =
    let lists : Lists = record { types = c.args.types.now; items = c.args.items.now; names = c.args.names.now } in
    let has : HasStart lists c.args.start = c.if-not-has_start.ensures.0 refl in
    let e = all_passed c.args.words.now lists (first_state c.args.start) c.loop-at.state c.loop-at.at c.loop-at-test.false c.loop-at.invariant in
    (λ same. passes_to c.args.start c.args.words.now lists c.loop-at.state has e (sym c.if-is_end.ensures), λ leads. refl)

pub returns-else-is_end-clause-legal : goal.returns-else-is_end-clause-legal
returns-else-is_end-clause-legal c =
    let lists : Lists = record { types = c.args.types.now; items = c.args.items.now; names = c.args.names.now } in
    let e = all_passed c.args.words.now lists (first_state c.args.start) c.loop-at.state c.loop-at.at c.loop-at-test.false c.loop-at.invariant in
    (λ same. absurd cc, λ leads. absurd (leads_not_whole c.args.start c.args.words.now lists c.loop-at.state e (sym c.if-is_end.ensures) leads))

pub returns-else-is_end-clause-least : goal.returns-else-is_end-clause-least
returns-else-is_end-clause-least c =
    let lists : Lists = record { types = c.args.types.now; items = c.args.items.now; names = c.args.names.now } in
    let has : HasStart lists c.args.start = c.if-not-has_start.ensures.0 refl in
    let e = all_passed c.args.words.now lists (first_state c.args.start) c.loop-at.state c.loop-at.at c.loop-at-test.false c.loop-at.invariant in
    wrong_behind c.args.start c.args.words.now lists c.loop-at.state has e (sym c.if-is_end.ensures)
