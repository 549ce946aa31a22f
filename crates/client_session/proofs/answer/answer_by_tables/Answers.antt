use Rattle.std.proofs.Common.{◌++◌, [], length, refl, ap, ◌∙◌, inl}
use Rattle.srv_edge.specs.Frames.{frame_bytes, half_bytes, spoken, word_bytes}
use Rattle.type_store.specs.Views.{tables_in}
use Rattle.client_session.specs.Tables.{Tables}
use Rattle.client_session.proofs.NoFault.{puts}
use Rattle.client_session.proofs.answer.answer_by_tables.Goals as goal

pub returns-in-Hello : goal.returns-in-Hello
returns-in-Hello c =
    rw c.in-Hello.is (puts c.args.head (tables_in c.args.tables.now) _ (record { kind = 129; body = half_bytes (spoken c.in-Hello.version) }) _ (tables_in c.args.tables.now) c.write_hello.ensures (refl, refl) refl (inl refl))

pub returns-in-Counts : goal.returns-in-Counts
returns-in-Counts c =
    let types = c.args.tables.now.types.records in
    let items = c.args.tables.now.items.records in
    let names = c.args.tables.now.names.names in
    let x : Tables = record { types = c.args.tables.now.types; items = c.args.tables.now.items; names = c.args.tables.now.names } in
    let head = c.args.head in
    let spelled =
    c.write_counts.ensures
    ∙ ap (λ n. frame_bytes (record { head = head; message = record { kind = 137; body = word_bytes n ++ word_bytes c.len-in-Counts.result ++ word_bytes c.len-names.result } })) c.len.ensures.count
    ∙ ap (λ n. frame_bytes (record { head = head; message = record { kind = 137; body = word_bytes (length types) ++ word_bytes n ++ word_bytes c.len-names.result } })) c.len-in-Counts.ensures.count
    ∙ ap (λ n. frame_bytes (record { head = head; message = record { kind = 137; body = word_bytes (length types) ++ word_bytes (length items) ++ word_bytes n } })) c.len-names.ensures in
    rw c.in-Counts.is (puts head x _ (record { kind = 137; body = word_bytes (length types) ++ word_bytes (length items) ++ word_bytes (length names) }) _ x
    spelled (inl (refl, refl)) refl (inl refl))

pub returns-in-Bye : goal.returns-in-Bye
returns-in-Bye c = rw c.in-Bye.is (puts c.args.head (tables_in c.args.tables.now) _ (record { kind = 138; body = [] }) _ (tables_in c.args.tables.now) c.write_reply.ensures (refl, refl) refl (inl refl))

pub returns-in-AddTypes : goal.returns-in-AddTypes
returns-in-AddTypes c =
    let added = c.add_list.ensures in
    rw c.in-AddTypes.is (puts c.args.head (tables_in c.args.tables.now) _ (record { kind = 139; body = added.0 }) _ (tables_in c.add_list.new.tables) added.1 (added.0, refl, added.2) refl (inl refl))

pub returns-in-AddItems : goal.returns-in-AddItems
returns-in-AddItems c =
    let added = c.add_list-in-AddItems.ensures in
    rw c.in-AddItems.is (puts c.args.head (tables_in c.args.tables.now) _ (record { kind = 140; body = added.0 }) _ (tables_in c.add_list-in-AddItems.new.tables) added.1 (added.0, refl, added.2) refl (inl refl))
