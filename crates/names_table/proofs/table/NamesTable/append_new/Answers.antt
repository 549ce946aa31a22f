use Rattle.std.proofs.Common.{◌≡◌, ◌++◌, [], ◌∷◌, None, OnOk, ◌≤◌, ap, sym, subst, ◌∙◌, arith}
use Rattle.std.specs.Map.{lookup}
use Rattle.std.specs.Str.{bytes_eq}
use Rattle.std.proofs.lemmas.List.Elements.{All-push}
use Rattle.indexmap.specs.IndexMap.{get_by, insert_entry}
use Rattle.indexmap.proofs.CallerLemmas.{insert_entry-new}
use Rattle.names_table.specs.Entries.{FindsFirst, first_of}
use Rattle.names_table.specs.Names.{IsName, needed_for}
use Rattle.names_table.proofs.Offsets.{bytes_of-push, finds-push, first-none}
use Rattle.names_table.proofs.table.NamesTable.append_new.Goals as goal

-- the copy of the name has its bytes
copied : (c : goal.After-unwrap) → c.in_ok-key.key.items ≡ c.args.name.now
copied c = c.in_ok-key.ensures.items_if_clones_equal (λ x y same. same)

-- the name is in the list, and finds nothing
none : (c : goal.After-unwrap) → first_of c.self.inside.list c.args.name.now ≡ None
none c = ap (λ t. first_of t.names c.args.name.now) c.self.view_is ∙ (first-none c.args.self.now c.args.name.now c.requires.new).0

-- the new entry is the last
added : (c : goal.After-unwrap) → c.insert.new.self.entries ≡ c.self.inside.offsets.entries ++ (c.in_ok-key.key, c.bytes-offset.result) ∷ []
added c =
    let reserved : c.reserve.new.self.entries ≡ c.self.inside.offsets.entries = c.in_ok-reserve.ensures.entries in
    let entries : c.insert.new.self.entries ≡ insert_entry (λ x y. bytes_eq x.items y.items) c.reserve.new.self.entries c.in_ok-key.key c.bytes-offset.result =
    subst (λ r. OnOk r (c.insert.new.self.entries ≡ insert_entry (λ x y. bytes_eq x.items y.items) c.reserve.new.self.entries c.in_ok-key.key c.bytes-offset.result)) c.unwrap.ensures c.insert.ensures.entries in
    let absent : get_by (λ k. bytes_eq c.in_ok-key.key.items k.items) c.reserve.new.self ≡ None =
    ap (λ es. lookup (λ k. bytes_eq c.in_ok-key.key.items k.items) es) reserved ∙ c.self.invariant.1 c.in_ok-key.key.items ∙ ap (first_of c.self.inside.list) (copied c) ∙ none c in
    entries ∙ insert_entry-new (λ x y. bytes_eq x.items y.items) c.reserve.new.self c.in_ok-key.key c.bytes-offset.result absent
    ∙ ap (λ es. es ++ (c.in_ok-key.key, c.bytes-offset.result) ∷ []) reserved

-- the list and the map with the name
pushed : (c : goal.After-unwrap) → c.push.new.self ≡ c.self.inside.list ++ c.in_ok-key.key.items ∷ []
pushed c = c.in_ok-push.ensures.ok ∙ ap (λ name. c.self.inside.list ++ name ∷ []) (sym (copied c))

found_first : (c : goal.After-unwrap) → FindsFirst c.push.new.self c.insert.new.self.entries
found_first c =
    let some = (first-none c.args.self.now c.args.name.now c.requires.new).1 in
    rw (pushed c, added c) (finds-push c.self.inside.list c.self.inside.offsets.entries c.in_ok-key.key c.bytes-offset.result c.bytes-offset.ensures (rw (copied c) some) c.self.invariant.1)

pub invariant_of-self-2 : goal.invariant_of-self-2
invariant_of-self-2 c =
    let names = c.self.inside.list in
    let name = c.args.name.now in
    let old = c.self.invariant.0 in
    let room : needed_for (record { max_bytes = c.self.inside.max_bytes; version = c.self.inside.version; names = names }) name ≤ c.self.inside.max_bytes =
    subst (λ t. needed_for t name ≤ t.max_bytes) (sym c.self.view_is) c.requires.room in (
      rw c.in_ok-push.ensures.ok
          (record { names = All-push IsName names name old.names c.requires.name; bytes = omega (arith, bytes_of-push names name, room); limit = old.limit; version = old.version }),
      found_first c,
    )
