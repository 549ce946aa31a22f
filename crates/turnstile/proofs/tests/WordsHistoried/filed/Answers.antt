use Rattle.std.proofs.Common.{◌≡◌, [], refl}
use Rattle.std.proofs.lemmas.List.Elements.{All-map}
use Rattle.turnstile.specs.declared.history.Entry.{Entry}
use Rattle.turnstile.proofs.tests.WordsHistoried.filed.Goals as goal

pub returns-clause-lawful : goal.returns-clause-lawful
returns-clause-lawful c = All-map (λ (e : Entry). e.brought ≡ []) (λ w. record { word = w; brought = [] }) c.args.self.now.words.items (λ k d below. refl)
