-- A file that was just opened is what its type keeps.
use Rattle.std.proofs.Common.{◌≡◌, ◌≤◌, ◌<◌, ◌^◌, ℕ, Bool, true, IsTrue, List, length, Option, None, Some, Result, Ok, Err, refl, sym, ap, subst, ◌∙◌, arith}
use Rattle.std.specs.Option.{option_map}
use Rattle.msf_blocks.specs.Judging.{◌>>=◌}
use Rattle.stream_directory.specs.Directory.{StreamBlocks, absent_size, stream_at}
use Rattle.msf_image.specs.declared.fault.Damage.{Damage}
use Rattle.msf_image.specs.declared.image.Image.{Image}
use Rattle.msf_image.specs.Reads.{IsWhole, read_file}
use Rattle.msf_image.specs.Spelled.{IsSpelled}
use Rattle.msf_image.proofs.Sizes.{sized_at}
use Rattle.committer.specs.Stored as store
use Rattle.table_model.specs.Bounds.{Bounds}
use Rattle.table_model.specs.Cut.{Cut}
use Rattle.table_model.specs.File.{settled}
use Rattle.table_model.specs.Tables.{Tables}
use Rattle.type_store.specs.Commits.{Holds, contents_of, cut_held, cut_told, held_from, held_in}
use Rattle.type_store.specs.Committed.{HoldsTables}
use Rattle.type_store.specs.Files.{HasStates, IsFile, Origin, TellsCut, TellsCuts, cut_of}
use Rattle.type_store.specs.Holds.{Contents, Held, holding, tables_of}
use Rattle.type_store.specs.Opening.{AreStreams, size_in}
use Rattle.type_store.specs.Shape.{HaveRoom, bytes_for, shape_of, sizes_in}
use Rattle.type_store.specs.Written.{KeptNumbers}
use Rattle.type_store.proofs.Gathered.{size_is}
use Rattle.type_store.proofs.ReadSizes.{directory_spelled}

-- ---- sizes

by_size : (x : Option StreamBlocks) (n : ℕ) → option_map (λ (s : StreamBlocks). s.size) x ≡ Some n → (s : StreamBlocks) × (x ≡ Some s) × (s.size ≡ n)
by_size None n is = absurd cc
by_size (Some s) n is = (s, refl, cc)

pub info_short : (image : Image) (kept : KeptNumbers) (info : List ℕ) (tables : Tables) → IsWhole image → HaveRoom kept info tables (sizes_in image.directory) → length info < absent_size
info_short image kept info tables whole room =
    let s = by_size (stream_at image.directory 1) (length info) (sym (size_is image.directory 1) ∙ room.info_stream) in
    let sized = sized_at image.head.block image.directory 1 s.0 whole.directory.sized (omega arith) s.1 in
    omega (arith, sized.0, s.2)

directory_short : (image : Image) → IsWhole image → IsSpelled image.head image.directory → bytes_for image.head.block (sizes_in image.directory) ≤ 2 ^ 28
directory_short image whole is = directory_spelled image is.text whole.head whole.directory.sized is.spelled is.short

-- ---- what is held

pub tells : (bounds : Bounds) (kept : KeptNumbers) (info : List ℕ) (number : ℕ) (tables : Tables) (file : List ℕ) (image : Image) → HoldsTables bounds kept info number tables (contents_of file image) → TellsCut bounds file image (cut_of number tables)
tells bounds kept info number tables file image h =
    ap (cut_told bounds) h.holds ∙ ap (λ n. Ok (cut_of n (tables_of bounds h.held))) h.age_is ∙ ap (λ t. Ok (cut_of number t)) h.tables_are

pub held_good : (bounds : Bounds) (file : List ℕ) (image : Image) (cut : Cut) → read_file file bounds.blocks ≡ Ok image → TellsCut bounds file image cut → Holds bounds file cut
unfolding held_in
held_good bounds file image cut is told = ap (λ r. cut_told bounds (r >>= held_from bounds file)) is ∙ told

pub held_bad : (bounds : Bounds) (file : List ℕ) (damage : Damage) → read_file file bounds.blocks ≡ Err damage → held_in bounds file ≡ Err damage
unfolding held_in
held_bad bounds file damage is = ap (λ r. r >>= held_from bounds file) is

pub held_behind : (bounds : Bounds) (file : List ℕ) (image : Image) (held : Held) → read_file file bounds.blocks ≡ Ok image → holding bounds (contents_of file image) ≡ Ok held → held_in bounds file ≡ Ok held
unfolding held_in
held_behind bounds file image held is holds = ap (λ r. r >>= held_from bounds file) is ∙ holds

-- the shape of an image, by an equal image and equal numbers
pub shape_at : (image other : Image) (kept numbers : KeptNumbers) → other ≡ image → kept ≡ numbers
    → shape_of other.head.block other.head.blocks (sizes_in other.directory) kept ≡ shape_of image.head.block image.head.blocks (sizes_in image.directory) numbers
shape_at image other kept numbers same kept_is =
    ap (λ (i : Image). shape_of i.head.block i.head.blocks (sizes_in i.directory) kept) same ∙ ap (λ (k : KeptNumbers). shape_of image.head.block image.head.blocks (sizes_in image.directory) k) kept_is

pub held_bad_streams : (bounds : Bounds) (file : List ℕ) (image : Image) (damage : Damage) → read_file file bounds.blocks ≡ Ok image → held_from bounds file image ≡ Err damage → held_in bounds file ≡ Err damage
unfolding held_in
held_bad_streams bounds file image damage is bad = ap (λ r. r >>= held_from bounds file) is ∙ bad

-- ---- the file

abbrev pub origin_from : Bounds → KeptNumbers → List ℕ → ℕ → Tables → List ℕ → Image → Origin
origin_from bounds kept info number tables opened image = record {
  bounds = bounds;
  kept = kept;
  info = info;
  first = cut_of number tables;
  opened = opened;
  image = image;
  shape = shape_of image.head.block image.head.blocks (sizes_in image.directory) kept;
}

module _ {D : Type 0} (told : Bool) (seen : D → List ℕ) (s : store.Stored D) (bounds : Bounds) (kept : KeptNumbers) (info : List ℕ) (number : ℕ) (tables : Tables) where
  opens_plainly : store.IsSettledFile s.file → s.limit ≡ bounds.blocks → number < 2 ^ 32 → IsWhole (store.newest s.file)
      → (IsTrue told → read_file (seen s.device) bounds.blocks ≡ Ok (store.newest s.file)) → (IsTrue told → HoldsTables bounds kept info number tables (contents_of (seen s.device) (store.newest s.file))) → IsSpelled (store.newest s.file).head (store.newest s.file).directory → AreStreams bounds (store.newest s.file).directory kept info number tables
      → IsFile told seen (origin_from bounds kept info number tables (seen s.device) (store.newest s.file)) s true (settled (cut_of number tables)) number None
  opens_plainly is limit small whole read holds spelled are = record {
    origin = record {
      can = are.can;
      short = info_short (store.newest s.file) kept info tables whole are.room;
      shape = refl;
      room = are.room;
      directory = directory_short (store.newest s.file) whole spelled;
      read = read;
      holds = holds;
    };
    limit = limit;
    states = subst (λ (f : store.File). HasStates f (settled (cut_of number tables))) (sym is) tt;
    cuts = λ t. subst (λ (f : store.File). TellsCuts bounds (seen s.device) f (settled (cut_of number tables))) (sym is) (tells bounds kept info number tables (seen s.device) (store.newest s.file) (holds t));
    newest = record {
      block = refl;
      unknown = refl;
      within = are.within;
      base_image = (record { sizes = refl; blocks = refl }, refl);
      base = λ t. (refl, refl);
    };
    begun = omega arith;
    small = small;
    prepared = tt;
  }

  pub opens : (first now : Tables) (opened : List ℕ) (image : Image) → first ≡ tables → now ≡ tables → opened ≡ seen s.device → image ≡ store.newest s.file
      → store.IsSettledFile s.file → s.limit ≡ bounds.blocks → number < 2 ^ 32 → IsWhole (store.newest s.file)
      → (IsTrue told → read_file (seen s.device) bounds.blocks ≡ Ok (store.newest s.file)) → (IsTrue told → HoldsTables bounds kept info number tables (contents_of (seen s.device) (store.newest s.file))) → IsSpelled (store.newest s.file).head (store.newest s.file).directory → AreStreams bounds (store.newest s.file).directory kept info number tables
      → IsFile told seen (origin_from bounds kept info number first opened image) s true (settled (cut_of number now)) number None
  opens first now opened image f n o i is limit small whole read holds spelled are =
      subst (λ x. IsFile told seen (origin_from bounds kept info number x opened image) s true (settled (cut_of number now)) number None) (sym f)
      (subst (λ x. IsFile told seen (origin_from bounds kept info number tables opened image) s true (settled (cut_of number x)) number None) (sym n)
      (subst (λ x. IsFile told seen (origin_from bounds kept info number tables x image) s true (settled (cut_of number tables)) number None) (sym o)
      (subst (λ (x : Image). IsFile told seen (origin_from bounds kept info number tables (seen s.device) x) s true (settled (cut_of number tables)) number None) (sym i)
      (opens_plainly is limit small whole read holds spelled are))))
