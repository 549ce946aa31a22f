use Rattle.std.proofs.Common.{◌≡◌, ◌≤◌, ◌++◌, [], ◌∷◌, ℕ, List, is_some, true, ap, sym, subst, ◌∙◌, arith}
use Rattle.std.proofs.lemmas.List.Elements.{All-push}
use Rattle.names_table.specs.Entries.{FindsFirst}
use Rattle.names_table.specs.Names.{IsName, IsNamesTable, Names, needed_for, offset_of}
use Rattle.names_table.proofs.Offsets.{bytes_of-push, either_way, finds_still}
use Rattle.names_table.proofs.table.NamesTable.append.Goals as goal

pub invariant_of-self : goal.invariant_of-self
invariant_of-self c =
    let inside = c.self.inside in
    let names = inside.list in
    let name = c.args.name.now in
    let old = c.self.invariant.0 in
    let table : Names = record { max_bytes = inside.max_bytes; version = inside.version; names = names } in
    let room : needed_for table name ≤ table.max_bytes = subst (λ t. needed_for t name ≤ t.max_bytes) (sym c.self.view_is) c.requires.room in
    let there : is_some (offset_of table name) ≡ true = ap (λ t. is_some (offset_of t name)) c.self.view_is ∙ ap is_some (sym c.find.ensures) ∙ sym c.is_some.ensures ∙ c.if-is_some.true in
    let P : List (List ℕ) → Type 0 = λ ns. IsNamesTable (record { max_bytes = inside.max_bytes; version = inside.version; names = ns }) × FindsFirst ns inside.offsets.entries in
    either_way P c.push.result c.push.new.self (names ++ name ∷ []) names c.push.ensures.ok c.push.ensures.err
    (record { names = All-push IsName names name old.names c.requires.name; bytes = omega (arith, bytes_of-push names name, room); limit = old.limit; version = old.version }, finds_still table inside.offsets.entries name there c.self.invariant.1)
    c.self.invariant
