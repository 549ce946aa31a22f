use Rattle.std.proofs.Common.{◌≡◌, ℕ, Bool, None, true, subst, refl, sym, ap, ◌∙◌}
use Rattle.committer.specs.Stored.{Stored}
use Rattle.msf_image.specs.declared.image.Image.{Image}
use Rattle.table_model.specs.Bounds.{bounds_of}
use Rattle.table_model.specs.File.{settled}
use Rattle.table_model.specs.Tables.{Tables}
use Rattle.type_store.specs.Commit.{Extent, extent_of}
use Rattle.type_store.specs.Files.{Begun, IsFile, cut_of}
use Rattle.type_store.specs.Shape.{shape_of, sizes_in}
use Rattle.type_store.specs.Views.{tables_in}
use Rattle.type_store.proofs.Opened.{opens, origin_from}
use Rattle.type_store.proofs.file.PdbFile.as_opened.Goals as goal

-- the commit that the file has begun is as it was opened
as_begun : (base : Extent) (begun now : Begun) (number : ℕ) (first held : Tables) → begun ≡ record { cut = cut_of number first; fresh = base.fresh } → base ≡ extent_of true held → now ≡ record { cut = cut_of number first; fresh = true } → begun ≡ now
as_begun base begun now number first held is from same = is ∙ ap (λ (b : Bool). record { cut = cut_of number first; fresh = b }) (ap (λ (e : Extent). e.fresh) from) ∙ sym same

pub invariant_of-file : goal.invariant_of-file
invariant_of-file g c =
    let streams = c.args.streams in
    let seen = g.D.Device.seen in
    let now : Begun = record { cut = cut_of streams.age (tables_in c.of.result.value); fresh = true } in
    let origin = origin_from (bounds_of c.args.limits) streams.kept streams.info.items streams.age (tables_in c.of-2.result.value) (seen c.of-opened.result.value.device) c.of-image.result.value in
    subst (λ (b : Begun). IsFile g.D.Device.tells seen origin c.args.store b.fresh (settled b.cut) streams.age None)
    (sym (as_begun streams.base c.new-newest.result now streams.age (tables_in c.of.result.value) (tables_in streams.tables) c.new-newest.ensures c.requires.base refl))
    (opens g.D.Device.tells seen c.args.store (bounds_of c.args.limits) streams.kept streams.info.items streams.age (tables_in streams.tables) _ _ _ _
    (ap tables_in c.of-2.ensures) (ap tables_in c.of.ensures) (ap (λ (s : Stored g.row.D.Denot). seen s.device) c.of-opened.ensures) (c.of-image.ensures ∙ c.image.ensures.newest) c.requires.settled c.requires.limit c.requires.streams.small c.image.ensures.whole c.requires.read c.requires.holds c.requires.spelled c.requires.streams)

pub returns-clause-opened : goal.returns-clause-opened
returns-clause-opened g c =
    let streams = c.args.streams in
    let now : Begun = record { cut = cut_of streams.age (tables_in c.of.result.value); fresh = true } in
    let is = as_begun streams.base c.new-newest.result now streams.age (tables_in c.of.result.value) (tables_in streams.tables) c.new-newest.ensures c.requires.base refl in
    record {
      small = c.requires.streams.small;
      file = ap (λ (b : Begun). settled b.cut) is ∙ ap (λ (t : Tables). settled (cut_of c.args.streams.age t)) (ap tables_in c.of.ensures);
      none_ready = refl;
      fresh = ap (λ (b : Begun). b.fresh) is;
      opened = ap (λ (s : Stored g.row.D.Denot). g.D.Device.seen s.device) c.of-opened.ensures;
      bounds_are = refl;
      within = c.requires.streams.within;
      kept = c.args.streams.kept;
      shape = ap (λ (i : Image). shape_of i.head.block i.head.blocks (sizes_in i.directory) c.args.streams.kept) (c.of-image.ensures ∙ c.image.ensures.newest);
    }
