use Rattle.std.proofs.Common.{◌≡◌, ◌++◌, [], ◌∷◌, ap, sym, ◌∙◌, arith}
use Rattle.std.proofs.lemmas.Grind.{common_steps}
use Rattle.names_table.specs.Names.{bytes_of}
use Rattle.names_table.specs.Strings.{names_cut}
use Rattle.names_table.proofs.Strings.{Pushes, pushes}
use Rattle.names_table.proofs.list.NameList.push.Goals as goal

-- the bytes and the starts with the name
strings : (c : goal.After-unwrap-3) → c.push.new.self.items ≡ (c.self.inside.strings.items ++ c.args.name.now) ++ 0 ∷ []
strings c = grind (arith, common_steps)

starts : (c : goal.After-unwrap-3) → c.push-2.new.self.items ≡ c.self.inside.starts.items ++ c.bytes-start.result ∷ []
starts c = grind (arith, common_steps)

more : (c : goal.After-unwrap-3) → Pushes c.self.inside.strings.items c.self.inside.starts.items c.args.name.now c.bytes-start.result
more c =
    pushes c.self.inside.strings.items c.self.inside.starts.items c.args.name.now c.bytes-start.result c.self.invariant c.requires.name
    (c.bytes-start.ensures ∙ sym (ap bytes_of c.self.view_is)) (omega (arith, ap bytes_of c.self.view_is, c.requires.room))

pub invariant_of-self-2 : goal.invariant_of-self-2
invariant_of-self-2 c = rw (strings c, starts c) (more c).are

pub returns-clause-ok : goal.returns-clause-ok
returns-clause-ok c = ap names_cut (strings c) ∙ (more c).names ∙ ap (λ names. names ++ c.args.name.now ∷ []) c.self.view_is
