use Rattle.std.proofs.Common.{◌≡◌, ◌≤◌, IsTrue, List, [], ◌∷◌, ℕ, Ok, Some, drop, length, ap, refl, rules, subst, sym, ◌∙◌}
use Rattle.srv_edge.specs.Disk.{Only}
use Rattle.committer.specs.Stored.{newest}
use Rattle.info_stream.specs.Text.{new_info}
use Rattle.msf_image.specs.declared.image.Image.{Image}
use Rattle.msf_image.specs.Packed.{IsPackable, packed_directory, packed_file, packed_image, packed_super, present}
use Rattle.msf_image.specs.Reads.{read_file}
use Rattle.msf_image.specs.Spelled.{IsSpelled}
use Rattle.msf_image.proofs.Relating.{judged_from}
use Rattle.table_model.specs.Bounds.{bounds_of}
use Rattle.table_model.specs.Tables.{Tables, empty_tables}
use Rattle.type_store.specs.Commits.{contents_of}
use Rattle.type_store.specs.Committed.{HoldsTables}
use Rattle.type_store.specs.Opening.{AreStreams}
use Rattle.type_store.specs.Views.{tables_in}
use Rattle.type_store.specs.Written.{KeptNumbers}
use Rattle.type_store.specs.Holds.{Contents}
use Rattle.type_store.specs.NewFile.{new_contents, new_numbers}
use Rattle.type_store.proofs.Created.{new_packable, new_spelled, new_streams, nine_blocks}
use Rattle.type_store.proofs.file.PdbFile.create.Goals as goal

pub create-requires-clause-packable : goal.create-requires-clause-packable
create-requires-clause-packable g c =
    let len : length c.args.guid ≡ 16 = search rules in
    let texts = ap present c.deref.ensures.value ∙ c.in-Ok.ensures.texts in
    subst (λ (x : Contents). IsPackable c.args.block x) (sym texts) (new_packable c.args.block c.args.guid c.args.signature c.requires.block len)

pub create-requires-clause-within : goal.create-requires-clause-within
create-requires-clause-within g c =
    let len : length c.args.guid ≡ 16 = search rules in
    let texts = ap present c.deref.ensures.value ∙ c.in-Ok.ensures.texts in
    subst (λ (x : Contents). (packed_super c.args.block 0 x).blocks ≤ c.args.limits.blocks) (sym texts) (nine_blocks c.args.block c.args.guid c.args.signature c.requires.block len c.args.limits)

pub as_opened-requires-clause-read : goal.as_opened-requires-clause-read
as_opened-requires-clause-read g c = λ told. judged_from _ _ _ _ (c.in_ok-store.ensures.reads told)

pub as_opened-requires-clause-holds : goal.as_opened-requires-clause-holds
as_opened-requires-clause-holds g c = λ told.
    let len : length c.args.guid ≡ 16 = search rules in
    let texts = ap present c.deref.ensures.value ∙ c.in-Ok.ensures.texts in
    let s = c.in-Ok.streams in
    let e = c.in-Ok.ensures in
    let now = contents_of (g.D.Device.seen c.in_ok-store.store.device) (newest c.in_ok-store.store.file) in
    let same : new_contents c.args.guid c.args.signature ≡ now = ap (λ (x : Contents). Some [] ∷ x) (sym (ap (λ (x : Contents). drop 1 x) texts) ∙ (c.in_ok-store.ensures.reads told).contents) in
    let held = subst (λ (x : Contents). HoldsTables (bounds_of c.args.limits) new_numbers (new_info c.args.guid c.args.signature) 1 (empty_tables c.args.limits) x) same (c.held_tables_can_be_committed.ensures.created c.args.limits c.args.guid c.args.signature len).1 in
    subst (λ (x : KeptNumbers). HoldsTables (bounds_of c.args.limits) x s.info.items s.age (tables_in s.tables) now) (sym e.kept)
    (subst (λ (x : List ℕ). HoldsTables (bounds_of c.args.limits) new_numbers x s.age (tables_in s.tables) now) (sym e.info)
    (subst (λ (x : ℕ). HoldsTables (bounds_of c.args.limits) new_numbers (new_info c.args.guid c.args.signature) x (tables_in s.tables) now) (sym e.age)
    (subst (λ (x : Tables). HoldsTables (bounds_of c.args.limits) new_numbers (new_info c.args.guid c.args.signature) 1 x now) (sym e.tables) (held))))

pub as_opened-requires-clause-spelled : goal.as_opened-requires-clause-spelled
as_opened-requires-clause-spelled g c =
    let len : length c.args.guid ≡ 16 = search rules in
    let texts = ap present c.deref.ensures.value ∙ c.in-Ok.ensures.texts in
    let image_is : newest c.in_ok-store.store.file ≡ packed_image c.args.block 0 (new_contents c.args.guid c.args.signature) = ap newest c.in_ok-store.ensures.file ∙ ap (λ (x : Contents). packed_image c.args.block 0 x) texts in
    subst (λ (i : Image). IsSpelled i.head i.directory) (sym image_is) (new_spelled c.args.block c.args.guid c.args.signature c.requires.block len)

pub as_opened-requires-clause-streams : goal.as_opened-requires-clause-streams
as_opened-requires-clause-streams g c =
    let len : length c.args.guid ≡ 16 = search rules in
    let texts = ap present c.deref.ensures.value ∙ c.in-Ok.ensures.texts in
    let image_is : newest c.in_ok-store.store.file ≡ packed_image c.args.block 0 (new_contents c.args.guid c.args.signature) = ap newest c.in_ok-store.ensures.file ∙ ap (λ (x : Contents). packed_image c.args.block 0 x) texts in
    let s = c.in-Ok.streams in
    let e = c.in-Ok.ensures in
    let held = (c.held_tables_can_be_committed.ensures.created c.args.limits c.args.guid c.args.signature len).1 in
    let room = c.held_tables_can_be_committed.ensures.room (bounds_of c.args.limits) new_numbers (new_info c.args.guid c.args.signature) 1 (empty_tables c.args.limits) (new_contents c.args.guid c.args.signature) held in
    let are = subst (λ (i : Image). AreStreams (bounds_of c.args.limits) i.directory new_numbers (new_info c.args.guid c.args.signature) 1 (empty_tables c.args.limits)) (sym image_is) (new_streams c.args.block c.args.guid c.args.signature c.args.limits len room) in
    subst (λ (x : KeptNumbers). AreStreams (bounds_of c.args.limits) (newest c.in_ok-store.store.file).directory x s.info.items s.age (tables_in s.tables)) (sym e.kept)
    (subst (λ (x : List ℕ). AreStreams (bounds_of c.args.limits) (newest c.in_ok-store.store.file).directory new_numbers x s.age (tables_in s.tables)) (sym e.info)
    (subst (λ (x : ℕ). AreStreams (bounds_of c.args.limits) (newest c.in_ok-store.store.file).directory new_numbers (new_info c.args.guid c.args.signature) x (tables_in s.tables)) (sym e.age)
    (subst (λ (x : Tables). AreStreams (bounds_of c.args.limits) (newest c.in_ok-store.store.file).directory new_numbers (new_info c.args.guid c.args.signature) 1 x) (sym e.tables) (are))))

pub returns-clause-only : goal.returns-clause-only
returns-clause-only g c =
    let texts = ap present c.deref.ensures.value ∙ c.in-Ok.ensures.texts in
    subst (λ (x : g.row.D.Denot). Only (packed_file c.args.block 0 (new_contents c.args.guid c.args.signature)) (g.D.Device.may_leave x)) (sym c.as_opened.ensures.device)
    (subst (λ (x : Contents). Only (packed_file c.args.block 0 x) (g.D.Device.may_leave c.in_ok-store.store.device)) texts c.in_ok-store.ensures.only)
