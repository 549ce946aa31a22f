use Rattle.std.proofs.Common.{◌≡◌, ◌+◌, ◌++◌, [], ◌∷◌, inl, drop, take, ap, sym, subst, ◌∙◌, arith, append_assoc}
use Rattle.std.specs.Option.{option_map}
use Rattle.names_table.specs.declared.fault.NamesFault.TheVariants.{Text}
use Rattle.names_table.specs.Names.{HasRoomFor, IsName, bytes_of}
use Rattle.names_table.specs.Reading.{first_long}
use Rattle.names_table.specs.Strings.{names_cut}
use Rattle.names_table.proofs.Offsets.{bytes_of-push}
use Rattle.names_table.proofs.Reading.{long_behind, long_here, next_name, rest_is}
use Rattle.names_table.proofs.read.append_names.Goals as goal

pub overflow_cast-result : goal.overflow_cast-result
overflow_cast-result c = omega (arith, c.loop-at-test.true, c.requires.room, c.requires.limit)

pub overflow_add-result-then-end : goal.overflow_add-result-then-end
overflow_add-result-then-end c = omega (arith, c.loop-at-test.true, c.requires.room, c.requires.limit)

pub returns-then-end-clause-err : goal.returns-then-end-clause-err
returns-then-end-clause-err c =
    let strings = c.args.strings.now in
    let at = c.loop-at.at in
    let n = c.before_nul-end.result in
    let st = next_name strings at n c.requires.nul c.loop-at-test.true c.before_nul-end.ensures in
    let long = long_here (13 + at) (take n (drop at strings)) (names_cut (drop (at + (n + 1)) strings)) (omega (arith, st.size, c.if-end.true)) in
    inl (ap (option_map (λ x. Text x)) (sym c.loop-at.invariant.long ∙ ap (first_long (13 + at)) st.first ∙ long))

pub append-requires-clause-name : goal.append-requires-clause-name
append-requires-clause-name c =
    let strings = c.args.strings.now in
    let n = c.before_nul-end.result in
    let st = next_name strings c.loop-at.at n c.requires.nul c.loop-at-test.true c.before_nul-end.ensures in
    subst (λ r. IsName (take n r)) (sym (rest_is strings c.loop-at.at)) (record { longest = omega (arith, st.size, c.if-end.false); no_nul = st.no_nul })

pub append-requires-clause-room : goal.append-requires-clause-room
append-requires-clause-room c =
    let strings = c.args.strings.now in
    let n = c.before_nul-end.result in
    let i = c.loop-at.invariant in
    let st = next_name strings c.loop-at.at n c.requires.nul c.loop-at-test.true c.before_nul-end.ensures in
    subst (λ r. HasRoomFor c.loop-at.table (take n r)) (sym (rest_is strings c.loop-at.at)) (omega (arith, st.size, st.within, i.room, i.limit, c.requires.room))

pub loop-at-preserved : goal.loop-at-preserved
loop-at-preserved c =
    let strings = c.args.strings.now in
    let at = c.loop-at.at in
    let n = c.before_nul-end.result in
    let i = c.loop-at.invariant in
    let name = take n (drop at strings) in
    let later = names_cut (drop (at + (n + 1)) strings) in
    let st = next_name strings at n c.requires.nul c.loop-at-test.true c.before_nul-end.ensures in
    let names : c.append.new.self.names ≡ c.loop-at.table.names ++ name ∷ [] =
    ap (λ t. t.names) c.in_ok-append.ensures.ok ∙ ap (λ r. c.loop-at.table.names ++ take n r ∷ []) (rest_is strings at) in
    record {
      within = omega (arith, st.within);
      names =
          ap (λ ns. ns ++ later) names ∙ append_assoc c.loop-at.table.names (name ∷ []) later
          ∙ ap (λ ns. c.loop-at.table.names ++ ns) (sym st.first) ∙ i.names;
      long =
          long_behind (13 + at) name later (13 + (at + (n + 1))) (omega (arith, st.size, c.if-end.false)) (omega (arith, st.size))
          ∙ ap (first_long (13 + at)) (sym st.first) ∙ i.long;
      room = omega (arith, ap bytes_of names, bytes_of-push c.loop-at.table.names name, st.size, i.room);
      limit = ap (λ t. t.max_bytes) c.in_ok-append.ensures.ok ∙ i.limit;
      version = ap (λ t. t.version) c.in_ok-append.ensures.ok ∙ i.version;
    }
