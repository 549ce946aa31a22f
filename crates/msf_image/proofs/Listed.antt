-- The blocks that the block map lists, and faults that are told.
use Rattle.std.proofs.Common.{◌≡◌, ◌≤◌, ◌<◌, ◌+◌, ◌*◌, ◌/◌, ◌%◌, ◌++◌, ◌-◌, ℕ, zero, suc, List, [], ◌∷◌, append_assoc, length, take, drop, All, None, Result, Ok, Err, refl, sym, ap, subst, ◌∙◌, IsErrAnd, arith}
use Rattle.std.specs.Prelude.{IfSome}
use Rattle.std.specs.Option.{option_map}
use Rattle.std.proofs.lemmas.List.{append-nil, length-take-le}
use Rattle.std.proofs.lemmas.Nat.{mul-le}
use Rattle.std.proofs.Math.Nat.{div-lt_iff_lt-mul, mul-div_left, mul_assoc, mul_comm, suc-mul}
use Rattle.msf_blocks.specs.declared.superblock.Super.{Super}
use Rattle.msf_blocks.specs.Blocks.{blocks_of_size}
use Rattle.msf_blocks.specs.Judging.{Tells, told_by, unless}
use Rattle.msf_blocks.specs.Superblock.{IsSuper}
use Rattle.msf_blocks.proofs.Judging.{told_below, unless_err}
use Rattle.msf_blocks.proofs.Sizes.{sized}
use Rattle.stream_directory.specs.declared.fault.DirFault.{DirFault}
use Rattle.stream_directory.specs.declared.fault.DirFault.TheVariants as directory
use Rattle.stream_directory.specs.Directory.{AreUsable}
use Rattle.stream_directory.specs.Reading.{directory_damage, first_bad, words_in}
use Rattle.stream_directory.proofs.Streams.{usable_from_none}
use Rattle.msf_image.specs.declared.fault.OpenFault.{OpenFault}
use Rattle.msf_image.specs.Faults.{damage_in, damage_of_directory, fault_of_directory}
use Rattle.msf_image.specs.Reads.{block_bytes, bytes_of_blocks, directory_blocks, listed_blocks}

-- the damage in a fault of the directory, as one of the file
pub directory_fits : (f : DirFault) → damage_in (fault_of_directory f) ≡ option_map damage_of_directory (directory_damage f)
directory_fits (directory.Damage damage) = refl
directory_fits directory.OutOfMemory = refl

-- how many words bytes have
length-words_in : (bytes : List ℕ) → (4 * length (words_in bytes) ≤ length bytes) × (length bytes < 4 * length (words_in bytes) + 4)
unfolding words_in
length-words_in [] = (omega arith, omega arith)
length-words_in (a ∷ []) = (omega arith, omega arith)
length-words_in (a ∷ b ∷ []) = (omega arith, omega arith)
length-words_in (a ∷ b ∷ c ∷ []) = (omega arith, omega arith)
length-words_in (a ∷ b ∷ c ∷ d ∷ bytes) = let rest = length-words_in bytes in (omega (arith, rest.0), omega (arith, rest.1))

below_div : (size x n : ℕ) → 0 < size → x < (n + 1) * size → x / size < n + 1
below_div size x n some below = (div-lt_iff_lt-mul some).1 below

-- blocks of at most so many bytes as a quarter of a block's square
pub fit : (size bytes n : ℕ) → 512 ≤ size → size % 8 ≡ 0 → bytes ≤ size * size / 4 → size < 4 * n + 4 → blocks_of_size size bytes ≤ n
fit size bytes n least eighth few many =
    let q = size / 4 in
    let whole : size ≡ q * 4 = omega (arith, eighth) in
    let square : size * size / 4 ≡ size * q = ap (λ k. k / 4) (ap (λ k. size * k) whole ∙ sym (mul_assoc size q 4)) ∙ mul-div_left (size * q) (omega arith) in
    let most : size * q ≤ n * size = subst (λ k. size * q ≤ k) (mul_comm size n) (mul-le size q size n (omega arith) (omega (arith, whole, many))) in
    let below : bytes + (size - 1) < (n + 1) * size = omega (arith, least, few, square, most, suc-mul n size) in
    omega (arith, below_div size (bytes + (size - 1)) n (omega (arith, least)) below)

-- the directory's blocks fit in one block of numbers
pub listed_fit : (s : Super) (block_map : List ℕ) → IsSuper s → length block_map ≡ s.block → blocks_of_size s.block s.dir_bytes ≤ length (words_in block_map)
listed_fit s block_map is whole =
    let words = length-words_in block_map in
    let size = sized s.block is.block in
    fit s.block s.dir_bytes (length (words_in block_map)) size.least size.eighth is.most_dir_bytes (omega (arith, words.1, whole))

-- usable blocks lie in the file
pub usable_inside : (s : Super) (earlier blocks : List ℕ) → AreUsable s earlier blocks → All (λ b. b < s.blocks) blocks
usable_inside s earlier [] is k d lt = absurd (omega (arith, lt))
usable_inside s earlier (b ∷ blocks) is zero d lt = is.1
usable_inside s earlier (b ∷ blocks) is (suc k) d lt = usable_inside s (earlier ++ b ∷ []) blocks is.3 k d (omega (arith, lt))

pub listed_inside : (s : Super) (blocks : List ℕ) → first_bad s [] blocks ≡ None → All (λ b. b < s.blocks) blocks
listed_inside s blocks none = usable_inside s [] blocks (usable_from_none s [] blocks none)

-- blocks that are usable, and others that are so behind them
pub usable_both : (s : Super) (earlier blocks others : List ℕ) → AreUsable s earlier blocks → AreUsable s (earlier ++ blocks) others → AreUsable s earlier (blocks ++ others)
usable_both s earlier [] others one two = subst (λ used. AreUsable s used others) (append-nil earlier) two
usable_both s earlier (b ∷ blocks) others one two =
    (one.0, one.1, one.2, usable_both s (earlier ++ b ∷ []) blocks others one.3 (subst (λ used. AreUsable s used others) (sym (append_assoc earlier (b ∷ []) blocks)) two))

-- blocks that are usable one after another
pub usable_front : (s : Super) (earlier blocks others : List ℕ) → AreUsable s earlier (blocks ++ others) → AreUsable s earlier blocks
usable_front s earlier [] others all = tt
usable_front s earlier (b ∷ blocks) others all = (all.0, all.1, all.2, usable_front s (earlier ++ b ∷ []) blocks others all.3)

pub usable_behind : (s : Super) (earlier blocks others : List ℕ) → AreUsable s earlier (blocks ++ others) → AreUsable s (earlier ++ blocks) others
usable_behind s earlier [] others all = subst (λ used. AreUsable s used others) (sym (append-nil earlier)) all
usable_behind s earlier (b ∷ blocks) others all =
    subst (λ used. AreUsable s used others) (append_assoc earlier (b ∷ []) blocks) (usable_behind s (earlier ++ b ∷ []) blocks others all.3)

-- the block map is the first
pub listed_behind : (map_addr : ℕ) (blocks listed : List ℕ) → listed ≡ map_addr ∷ blocks → listed ≡ map_addr ∷ drop 1 listed
listed_behind map_addr blocks listed is = is ∙ ap (λ xs. map_addr ∷ drop 1 xs) (sym is)

-- what is listed is what the file lists
listed_as : (s : Super) (file block_map listed : List ℕ) → block_map ≡ bytes_of_blocks s.block file (s.map_addr ∷ []) → listed ≡ s.map_addr ∷ take (blocks_of_size s.block s.dir_bytes) (words_in block_map)
    → listed_blocks file s ≡ told_by damage_of_directory (unless (first_bad s [] listed) listed)
unfolding listed_blocks
listed_as s file block_map listed read is =
    let same : listed ≡ s.map_addr ∷ directory_blocks file s = is ∙ ap (λ bytes. s.map_addr ∷ take (blocks_of_size s.block s.dir_bytes) (words_in bytes)) (read ∙ append-nil (block_bytes s.block file s.map_addr)) in
    ap (λ blocks. told_by damage_of_directory (unless (first_bad s [] blocks) blocks)) (sym same)

pub listed_ok : (s : Super) (file block_map listed : List ℕ) → block_map ≡ bytes_of_blocks s.block file (s.map_addr ∷ []) → listed ≡ s.map_addr ∷ take (blocks_of_size s.block s.dir_bytes) (words_in block_map)
    → first_bad s [] listed ≡ None → listed_blocks file s ≡ Ok listed
listed_ok s file block_map listed read is none = listed_as s file block_map listed read is ∙ ap (λ o. told_by damage_of_directory (unless o listed)) none

pub listed_err : {X U : Type 0} (u : U) (view : X → List ℕ) (r : Result X OpenFault) (s : Super) (file block_map listed : List ℕ) (f : DirFault) → block_map ≡ bytes_of_blocks s.block file (s.map_addr ∷ []) → listed ≡ s.map_addr ∷ take (blocks_of_size s.block s.dir_bytes) (words_in block_map)
    → IsErrAnd r (λ x. x ≡ fault_of_directory f) → IfSome (directory_damage f) (λ damage. unless (first_bad s [] listed) u ≡ Err damage) → Tells damage_in view r (listed_blocks file s)
listed_err u view r s file block_map listed f read is same found =
    told_below damage_in directory_damage damage_of_directory fault_of_directory view f r (unless (first_bad s [] listed) u) (listed_blocks file s) directory_fits same found
    (λ damage e. listed_as s file block_map listed read is ∙ ap (λ o. told_by damage_of_directory (unless o listed)) (unless_err (first_bad s [] listed) u damage e))

pub listed_count : (s : Super) (block_map listed : List ℕ) → IsSuper s → length block_map ≡ s.block → listed ≡ s.map_addr ∷ take (blocks_of_size s.block s.dir_bytes) (words_in block_map) → length listed ≡ 1 + blocks_of_size s.block s.dir_bytes
listed_count s block_map listed is whole same =
    omega (arith, ap length same, length-take-le (blocks_of_size s.block s.dir_bytes) (words_in block_map) (listed_fit s block_map is whole))

-- blocks that the file lists, none of them bad
pub listed_from : (file listed : List ℕ) (s : Super) → take (blocks_of_size s.block s.dir_bytes) (words_in (block_bytes s.block file s.map_addr)) ≡ listed → first_bad s [] (s.map_addr ∷ listed) ≡ None
    → listed_blocks file s ≡ Ok (s.map_addr ∷ listed)
unfolding listed_blocks
listed_from file listed s are none =
    ap (λ blocks. told_by damage_of_directory (unless (first_bad s [] (s.map_addr ∷ blocks)) (s.map_addr ∷ blocks))) are ∙ ap (λ f. told_by damage_of_directory (unless f (s.map_addr ∷ listed))) none
