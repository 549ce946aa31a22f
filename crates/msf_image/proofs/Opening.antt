-- The file as it is read: what is told at each stage is what the file tells.
use Rattle.std.proofs.Common.{◌≡◌, ◌<◌, ◌+◌, ℕ, false, List, [], ◌∷◌, length, drop, All, Option, Result, Ok, Err, sym, ap, subst, ◌∙◌, arith, IfOk, OnOk}
use Rattle.std.specs.List.{flat_map}
use Rattle.std.specs.List.Sorted.{IsStrictlyIncreasing}
use Rattle.msf_blocks.specs.declared.superblock.Super.{Super}
use Rattle.msf_blocks.specs.Blocks.{IsReserved, blocks_of_size}
use Rattle.msf_blocks.specs.Judging.{◌>>=◌}
use Rattle.msf_blocks.specs.Superblock.{IsSuper}
use Rattle.free_page_maps.specs.FreeBlocks.{FreeBlocks, is_free}
use Rattle.stream_directory.specs.Directory.{AreUsable, IsDirectory, StreamBlocks, blocks_in}
use Rattle.msf_image.specs.declared.image.Image.{Image}
use Rattle.msf_image.specs.declared.fault.Damage.{Damage}
use Rattle.msf_image.specs.declared.fault.OpenFault.{OpenFault}
use Rattle.msf_image.specs.Reads.{IsWhole, free_blocks_in, listed_blocks, read_file, streams_in, superblock_in, used_blocks, with_free}
use Rattle.msf_image.proofs.Directories.{done}
use Rattle.msf_image.proofs.Listed.{usable_both}

pub ok_is : {x y : FreeBlocks} → done x ≡ done y → x ≡ y
ok_is is = cc

-- what comes first is read
bound : {A B : Type 0} {o x : Result A Damage} (f : A → Result B Damage) → o ≡ x → (o >>= f) ≡ (x >>= f)
bound f is = ap (λ r. r >>= f) is

pub at_superblock : (file : List ℕ) (limit : ℕ) (e : Damage) → superblock_in file limit ≡ Err e → read_file file limit ≡ Err e
unfolding read_file
at_superblock file limit e is = bound _ is

-- from the superblock on
behind_superblock : (file : List ℕ) (limit : ℕ) (s : Super) → superblock_in file limit ≡ Ok s
    → read_file file limit ≡ (listed_blocks file s >>= λ listed. streams_in file s listed >>= λ streams. with_free (used_blocks listed streams) (record { head = s; directory = streams; free = free_blocks_in file s }))
unfolding read_file
behind_superblock file limit s is = bound _ is

pub at_listed : (file now : List ℕ) (limit : ℕ) (s : Super) (e : Damage) → now ≡ file → superblock_in file limit ≡ Ok s → listed_blocks now s ≡ Err e → read_file file limit ≡ Err e
at_listed file now limit s e same is listed = behind_superblock file limit s is ∙ bound _ (ap (λ f. listed_blocks f s) (sym same) ∙ listed)

behind_listed : (file now : List ℕ) (limit : ℕ) (s : Super) (l : List ℕ) → now ≡ file → superblock_in file limit ≡ Ok s → listed_blocks now s ≡ Ok l
    → read_file file limit ≡ (streams_in file s l >>= λ streams. with_free (used_blocks l streams) (record { head = s; directory = streams; free = free_blocks_in file s }))
behind_listed file now limit s l same is listed = behind_superblock file limit s is ∙ bound _ (ap (λ f. listed_blocks f s) (sym same) ∙ listed)

pub at_streams : (file now then : List ℕ) (limit : ℕ) (s : Super) (l : List ℕ) (e : Damage) → now ≡ file → then ≡ now → superblock_in file limit ≡ Ok s → listed_blocks now s ≡ Ok l → streams_in then s l ≡ Err e → read_file file limit ≡ Err e
at_streams file now then limit s l e same again is listed streams =
    behind_listed file now limit s l same is listed ∙ bound _ (ap (λ f. streams_in f s l) (sym (again ∙ same)) ∙ streams)

pub at_free : (file now then last : List ℕ) (limit : ℕ) (s : Super) (l : List ℕ) (d : List (Option StreamBlocks)) (m : FreeBlocks) → now ≡ file → then ≡ now → last ≡ then → superblock_in file limit ≡ Ok s → listed_blocks now s ≡ Ok l
    → streams_in then s l ≡ Ok d → done (free_blocks_in last s) ≡ done m → read_file file limit ≡ with_free (used_blocks l d) (record { head = s; directory = d; free = m })
at_free file now then last limit s l d m same again more is listed streams free =
    behind_listed file now limit s l same is listed ∙ bound _ (ap (λ f. streams_in f s l) (sym (again ∙ same)) ∙ streams)
    ∙ ap (λ f. with_free (used_blocks l d) (record { head = s; directory = d; free = f })) (ap (λ f. free_blocks_in f s) (sym (more ∙ again ∙ same)) ∙ ok_is free)

-- an image of which all was judged
pub whole_judged : (r : Result Image OpenFault) (image : Image) (listed : List ℕ) → IsSuper image.head → listed ≡ image.head.map_addr ∷ drop 1 listed → length listed ≡ 1 + blocks_of_size image.head.block image.head.dir_bytes → AreUsable image.head [] listed
    → IsDirectory image.head listed image.directory → image.free.blocks ≡ image.head.blocks → All (λ b. b < image.head.blocks) image.free.free → All (λ b. ¬ IsReserved image.head.block b) image.free.free → IsStrictlyIncreasing image.free.free
    → IfOk r (λ judged. judged ≡ image) → OnOk r (All (λ b. is_free image.free b ≡ false) (used_blocks listed image.directory)) → IfOk r IsWhole
whole_judged (Err fault) image listed head first count usable directory size inside unreserved rising same none_free = tt
whole_judged (Ok judged) image listed head first count usable directory size inside unreserved rising same none_free =
    let used = usable_both image.head [] listed (flat_map blocks_in image.directory) usable directory.usable in
    subst IsWhole (sym same) (record {
      head = head;
      blocks = drop 1 listed;
      count = omega (arith, count, ap length first);
      directory = subst (λ l. IsDirectory image.head l image.directory) first directory;
      usable = subst (λ l. AreUsable image.head [] (used_blocks l image.directory)) first used;
      none_free = subst (λ l. All (λ b. is_free image.free b ≡ false) (used_blocks l image.directory)) first none_free;
      size = size;
      inside = inside;
      unreserved = unreserved;
      rising = rising;
    })
