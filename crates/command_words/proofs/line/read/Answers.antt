use Rattle.std.proofs.Common.{◌≡◌, ◌∙◌, ⊎_elim, List, map, sym, ap, subst, true, inl, inr}
use Rattle.clap.specs.Faults.{fault_of, is_simple_and_free}
use Rattle.clap.specs.Kinds.{HasKind}
use Rattle.clap.specs.Simple.{HasMatchesOf, app_of}
use Rattle.command_words.specs.Lines.{Text}
use Rattle.command_words.proofs.Reading.{found_line, no_line, simple_and_free}
use Rattle.command_words.proofs.line.read.Goals as goal

pub returns-in-Ok : goal.returns-in-Ok
returns-in-Ok c =
    let names : List Text = map (λ n. n.now) c.args.names.now in
    let words : List Text = map (λ w. w.now) c.args.words.now in
    let free : is_simple_and_free (app_of c.in_ok-command.command) ≡ true = ap is_simple_and_free c.in_ok-command.ensures ∙ simple_and_free names in
    found_line names c.requires.names words c.requires.texts c.in-Ok.matches (sym (ap (λ a. fault_of a words) c.in_ok-command.ensures) ∙ c.in-Ok.ensures.kinds free)
    (subst (λ a. HasMatchesOf a words c.in-Ok.matches) c.in_ok-command.ensures c.in-Ok.ensures.matches)

pub returns-in-Err : goal.returns-in-Err
returns-in-Err c =
    let names : List Text = map (λ n. n.now) c.args.names.now in
    let words : List Text = map (λ w. w.now) c.args.words.now in
    let free : is_simple_and_free (app_of c.in_ok-command.command) ≡ true = ap is_simple_and_free c.in_ok-command.ensures ∙ simple_and_free names in
    let kinds = subst (λ a. HasKind (fault_of a words) c.in-Err.error) c.in_ok-command.ensures (c.in-Err.ensures.kinds free) in
    ⊎_elim (λ m. inl m) (λ h. inr (h.0, no_line names c.requires.names words c.requires.texts c.in-Err.error kinds (λ e. h.1 (c.kind.ensures ∙ e)))) c.usage_of.ensures
