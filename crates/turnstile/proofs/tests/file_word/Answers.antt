use Rattle.std.proofs.Common.{ℕ, List, [], ◌∷◌, ◌++◌, map, ap, sym, ◌∙◌}
use Rattle.std.proofs.lemmas.List.{map-append}
use Rattle.turnstile.specs.declared.history.Entry.{Entry}
use Rattle.turnstile.proofs.tests.file_word.Goals as goal

pub file-requires-clause-entry : goal.file-requires-clause-entry
file-requires-clause-entry g c =
    let entry : ℕ → Entry = λ w. record { word = w; brought = [] } in (
      entry c.args.word,
      ap (map entry) c.in-Ok.ensures.ok ∙ map-append entry c.value.result.now.words.items (c.args.word ∷ [])
          ∙ ap (λ (v : _). map entry v.words.items ++ entry c.args.word ∷ []) c.value.ensures.value
          ∙ ap (λ (l : List Entry). l ++ entry c.args.word ∷ []) c.take_turn-turn.ensures.history,
      c.requires.number ∙ sym c.take_turn-turn.ensures.same.0.1,
    )
