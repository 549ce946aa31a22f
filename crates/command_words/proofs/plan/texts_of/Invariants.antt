use Rattle.std.proofs.Common.{◌≡◌, map, take}
use Rattle.std.specs.List.{AllByRecursion}
use Rattle.std.specs.Str.{IsUtf8}
use Rattle.command_words.proofs.plan.texts_of.Given as goal

abbrev pub invariant-loop-word : goal.invariant-loop-word
invariant-loop-word l = record {
  same : map (λ w. w.now) l.texts.items ≡ take l.word-index l.words;
  texts : AllByRecursion IsUtf8 (map (λ w. w.now) l.texts.items);
}
