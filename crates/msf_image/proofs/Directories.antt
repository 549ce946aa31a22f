-- The directory and the free blocks of a file, as they are read.
use Rattle.std.proofs.Common.{◌≡◌, ◌≤◌, ◌<◌, ◌+◌, ◌*◌, ◌/◌, ◌-◌, ℕ, inl, inr, List, ◌∷◌, length, map, take, drop, get_or, All, Option, Result, Ok, Err, sym, ap, subst, ◌∙◌, IsErrAnd, arith}
use Rattle.std.proofs.lemmas.List.{length-drop, take_all}
use Rattle.std.proofs.lemmas.List.Elements.{All-filter}
use Rattle.std.proofs.lemmas.List.FromFn.{get_or-map-range_with_len, get_or-range_with_len, length-map-range_with_len, length-range_with_len}
use Rattle.std.proofs.lemmas.Nat.{mul-le}
use Rattle.std.proofs.Math.Nat.{div-lt_iff_lt-mul, div-mul-le_self, lt-div-mul-add, mul_assoc, mul_comm, suc-mul}
use Rattle.std.specs.Prelude.{IfSome}
use Rattle.std.specs.List.{range_with_len}
use Rattle.std.specs.List.Sorted.{IsStrictlyIncreasing}
use Rattle.std.proofs.lemmas.List.Kept.{IsStrictlyIncreasing-filter}
use Rattle.msf_blocks.specs.declared.superblock.Super.{Super}
use Rattle.msf_blocks.specs.Blocks.{IsMap, map_block, map_blocks}
use Rattle.msf_blocks.specs.Judging.{Tells, told_by}
use Rattle.msf_blocks.specs.Superblock.{IsSuper}
use Rattle.msf_blocks.proofs.Judging.{told_below}
use Rattle.msf_blocks.proofs.Sizes.{sized}
use Rattle.stream_directory.specs.declared.fault.DirFault.{DirFault}
use Rattle.stream_directory.specs.Directory.{StreamBlocks}
use Rattle.stream_directory.specs.Reading.{directory_damage, reading}
use Rattle.msf_image.specs.declared.fault.Damage.{Damage}
use Rattle.msf_image.specs.declared.fault.OpenFault.{OpenFault}
use Rattle.msf_image.specs.Faults.{damage_in, damage_of_directory, fault_of_directory}
use Rattle.msf_image.specs.Reads.{active_map_blocks, bytes_of_blocks, free_blocks_in, streams_in}
use Rattle.free_page_maps.specs.FreeBlocks.{FreeBlocks, below_where, free_in}
use Rattle.msf_image.proofs.Listed.{directory_fits}

streams_as : (s : Super) (file listed text : List ℕ) → text ≡ take s.dir_bytes (bytes_of_blocks s.block file (take (length listed - 1) (drop 1 listed))) → streams_in file s listed ≡ told_by damage_of_directory (reading s listed text)
unfolding streams_in
streams_as s file listed text is =
    ap (λ t. told_by damage_of_directory (reading s listed t)) (sym (is ∙ ap (λ blocks. take s.dir_bytes (bytes_of_blocks s.block file blocks)) (take_all (length listed - 1) (drop 1 listed) (omega (arith, length-drop 1 listed)))))

pub streams_ok : (s : Super) (file listed text : List ℕ) (streams : List (Option StreamBlocks)) → text ≡ take s.dir_bytes (bytes_of_blocks s.block file (take (length listed - 1) (drop 1 listed))) → reading s listed text ≡ Ok streams → streams_in file s listed ≡ Ok streams
streams_ok s file listed text streams is read = streams_as s file listed text is ∙ ap (told_by damage_of_directory) read

pub streams_err : {X : Type 0} (view : X → List (Option StreamBlocks)) (r : Result X OpenFault) (s : Super) (file listed text : List ℕ) (f : DirFault) → text ≡ take s.dir_bytes (bytes_of_blocks s.block file (take (length listed - 1) (drop 1 listed))) → IsErrAnd r (λ x. x ≡ fault_of_directory f)
    → IfSome (directory_damage f) (λ damage. reading s listed text ≡ Err damage) → Tells damage_in view r (streams_in file s listed)
streams_err view r s file listed text f is same fails =
    told_below damage_in directory_damage damage_of_directory fault_of_directory view f r (reading s listed text) (streams_in file s listed) directory_fits same fails
    (λ damage e. streams_as s file listed text is ∙ ap (told_by damage_of_directory) e)

-- a text that the file has in the blocks listed
pub streams_from_text : (file listed text : List ℕ) (s : Super) (map_addr : ℕ) (streams : List (Option StreamBlocks)) → take s.dir_bytes (bytes_of_blocks s.block file listed) ≡ text → reading s (map_addr ∷ listed) text ≡ Ok streams
    → streams_in file s (map_addr ∷ listed) ≡ Ok streams
unfolding streams_in
streams_from_text file listed text s map_addr streams are read = ap (λ t. told_by damage_of_directory (reading s (map_addr ∷ listed) t)) are ∙ ap (told_by damage_of_directory) read

-- how many blocks of a map carry meaning
below_div : (size x n : ℕ) → 0 < size → x < (n + 1) * size → x / size < n + 1
below_div size x n some below = (div-lt_iff_lt-mul some).1 below

pub few_map_blocks : (size blocks most : ℕ) → 512 ≤ size → blocks ≤ most → map_blocks size blocks ≤ most
few_map_blocks size blocks most least few =
    let wide : most * 1 ≤ most * (8 * size) = mul-le most 1 most (8 * size) (omega arith) (omega (arith, least)) in
    omega (arith, below_div (8 * size) (blocks + (8 * size - 1)) most (omega (arith, least)) (omega (arith, least, few, wide, suc-mul most (8 * size))))

pub enough_map_blocks : (size blocks : ℕ) → 512 ≤ size → blocks ≤ 8 * (map_blocks size blocks * size)
enough_map_blocks size blocks least =
    let n = map_blocks size blocks in
    let next : blocks + (8 * size - 1) < n * (8 * size) + 8 * size = lt-div-mul-add (omega (arith, least)) in
    let same : n * (8 * size) ≡ 8 * (n * size) = sym (mul_assoc n 8 size) ∙ ap (λ k. k * size) (mul_comm n 8) ∙ mul_assoc 8 n size in
    omega (arith, least, next, same)

-- a block of a map lies in the file
map_block_inside : (size blocks map j : ℕ) → 512 ≤ size → 4 ≤ blocks → map ≤ 2 → j < map_blocks size blocks → map + j * size < blocks
map_block_inside size blocks map j least some small lt =
    let n = map_blocks size blocks in
    let whole : n * (8 * size) ≤ blocks + (8 * size - 1) = div-mul-le_self (blocks + (8 * size - 1)) (8 * size) in
    let next : (j + 1) * (8 * size) ≤ n * (8 * size) = mul-le (j + 1) (8 * size) n (8 * size) (omega (arith, lt)) (omega arith) in
    let same : j * (8 * size) ≡ 8 * (j * size) = sym (mul_assoc j 8 size) ∙ ap (λ k. k * size) (mul_comm j 8) ∙ mul_assoc 8 j size in
    omega (arith, least, some, small, whole, next, same, suc-mul j (8 * size))

small_map : (map : ℕ) → IsMap map → map ≤ 2
small_map map is = elim is [ inl one ↦ omega (arith, one) | inr two ↦ omega (arith, two) ]

pub map_inside : (s : Super) (n : ℕ) (blocks : List ℕ) → IsSuper s → n ≡ map_blocks s.block s.blocks → blocks ≡ map (map_block s.block s.map) (range_with_len 0 n) → All (λ b. b < s.blocks) blocks
map_inside s n blocks is count same k d lt =
    let inside : k < n = omega (arith, lt, ap length same, length-map-range_with_len (map_block s.block s.map) 0 n) in
    let at : get_or blocks k d ≡ s.map + k * s.block = ap (λ xs. get_or xs k d) same ∙ get_or-map-range_with_len (map_block s.block s.map) 0 n k k d inside (omega arith) in
    omega (arith, at, map_block_inside s.block s.blocks s.map k (sized s.block is.block).least is.least_blocks (small_map s.map is.map) (omega (arith, inside, count)))

pub map_count : (s : Super) (n : ℕ) (blocks : List ℕ) → n ≡ map_blocks s.block s.blocks → blocks ≡ map (map_block s.block s.map) (range_with_len 0 n) → length blocks ≡ map_blocks s.block s.blocks
map_count s n blocks count same = ap length same ∙ length-map-range_with_len (map_block s.block s.map) 0 n ∙ count

abbrev pub done : {A : Type 0} → A → Result A Damage
done x = Ok x

pub free_as : (s : Super) (file maps blocks : List ℕ) (m : FreeBlocks) → m ≡ free_in s.block s.blocks maps → maps ≡ bytes_of_blocks s.block file blocks → blocks ≡ active_map_blocks s → done (free_blocks_in file s) ≡ done m
unfolding free_blocks_in
free_as s file maps blocks m is read listed = ap done (sym (is ∙ ap (free_in s.block s.blocks) (read ∙ ap (bytes_of_blocks s.block file) listed)))

-- every free block lies in the file
pub free_inside : (size blocks : ℕ) (maps : List ℕ) (m : FreeBlocks) → m ≡ free_in size blocks maps → All (λ b. b < blocks) m.free
unfolding below_where
free_inside size blocks maps m is =
    let all : All (λ b. b < blocks) (range_with_len 0 blocks) = λ k d lt. omega (arith, lt, length-range_with_len 0 blocks, get_or-range_with_len 0 blocks k d (omega (arith, lt, length-range_with_len 0 blocks))) in
    subst (λ free. All (λ b. b < blocks) free.free) (sym is) (All-filter _ (λ b. b < blocks) (range_with_len 0 blocks) all)

-- and they rise
pub rising_range : (n : ℕ) → IsStrictlyIncreasing (range_with_len 0 n)
rising_range n k lt =
    let len = length-range_with_len 0 n in
    omega (arith, get_or-range_with_len 0 n k 0 (omega (arith, lt, len)), get_or-range_with_len 0 n (k + 1) 0 (omega (arith, lt, len)))

pub free_rising : (size blocks : ℕ) (maps : List ℕ) (m : FreeBlocks) → m ≡ free_in size blocks maps → IsStrictlyIncreasing m.free
unfolding below_where
free_rising size blocks maps m is = subst (λ free. IsStrictlyIncreasing free.free) (sym is) (IsStrictlyIncreasing-filter _ (range_with_len 0 blocks) (rising_range blocks))
