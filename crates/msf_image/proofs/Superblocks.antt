-- The superblock at the front of a file.
use Rattle.std.proofs.Common.{◌≡◌, ◌≤◌, ◌<◌, inl, inr, ℕ, ◌&&◌, eqb, leb, false, List, ◌∷◌, ◌*◌, length, take, Ok, Err, sym, ap, ◌∙◌, arith}
use Rattle.std.proofs.lemmas.Bool.{cases_lt}
use Rattle.std.proofs.lemmas.List.{take-take}
use Rattle.std.proofs.lemmas.Bool.Decides.{leb_tells}
use Rattle.std.proofs.lemmas.Nat.{mul-le}
use Rattle.std.specs.List.{starts_with}
use Rattle.msf_blocks.specs.declared.superblock.Super.{Super}
use Rattle.msf_blocks.specs.declared.superblock.SuperFault.{SuperFault}
use Rattle.msf_blocks.specs.declared.superblock.SuperFault.TheVariants.{Magic}
use Rattle.msf_blocks.specs.Judging.{first_damage, told_by, unless}
use Rattle.msf_blocks.specs.Superblock.{IsSuper, has_magic, magic, number_tests, numbers_of, superblock_text, superblock_told}
use Rattle.msf_blocks.proofs.Sizes.{sized}
use Rattle.msf_blocks.proofs.SuperblockTexts.{told_again}
use Rattle.msf_image.specs.Faults.{damage_of_superblock}
use Rattle.msf_image.specs.Reads.{superblock_in}

short_magic : (bytes : List ℕ) (len : ℕ) → len < 56 → has_magic bytes len ≡ false
unfolding has_magic
short_magic bytes len short =
    elim (leb_tells 56 len) [ inl long ↦ absurd (omega (arith, long.1, short)) | inr is ↦ ap (λ b. b && leb 56 (length bytes) && starts_with eqb bytes magic) is.0 ]

short_file : (bytes : List ℕ) (len limit : ℕ) → len < 56 → superblock_told bytes len limit ≡ Err Magic
short_file bytes len limit short =
    ap (λ b. unless (first_damage ((b, Magic) ∷ number_tests (numbers_of bytes) len limit)) (numbers_of bytes)) (short_magic bytes len short)

-- the front of a file is judged as the file is
superblock_read : (file bytes : List ℕ) (len limit : ℕ) → len ≡ length file → (56 ≤ len → bytes ≡ take 56 file) → superblock_told (take 56 file) (length file) limit ≡ superblock_told bytes len limit
superblock_read file bytes len limit is front =
    elim (cases_lt len 56) [
      | inr long ↦ ap (λ n. superblock_told (take 56 file) n limit) (sym is) ∙ ap (λ b. superblock_told b len limit) (sym (front long))
      | inl short ↦ short_file (take 56 file) (length file) limit (omega (arith, short, is)) ∙ sym (short_file bytes len limit short)
    ]

pub superblock_ok : (file bytes : List ℕ) (len limit : ℕ) (s : Super) → len ≡ length file → (56 ≤ len → bytes ≡ take 56 file) → Ok s ≡ superblock_told bytes len limit → superblock_in file limit ≡ Ok s
unfolding superblock_in
superblock_ok file bytes len limit s is front answer = ap (told_by damage_of_superblock) (superblock_read file bytes len limit is front ∙ sym answer)

pub superblock_err : (file bytes : List ℕ) (len limit : ℕ) (fault : SuperFault) → len ≡ length file → (56 ≤ len → bytes ≡ take 56 file) → Err fault ≡ superblock_told bytes len limit → superblock_in file limit ≡ Err (damage_of_superblock fault)
unfolding superblock_in
superblock_err file bytes len limit fault is front answer = ap (told_by damage_of_superblock) (superblock_read file bytes len limit is front ∙ sym answer)

-- what is spelled at the front is judged so
pub superblock_from : (file : List ℕ) (limit : ℕ) (s : Super) → IsSuper s → take 56 file ≡ superblock_text s → s.blocks ≤ limit → s.blocks * s.block ≤ length file → superblock_in file limit ≡ Ok s
unfolding superblock_in
superblock_from file limit s is front few inside =
    let same : take 56 (take 56 file) ≡ superblock_text s = take-take 56 56 file (omega arith) ∙ front in
    ap (told_by damage_of_superblock) (told_again (take 56 file) (length file) limit s (record { is_super = is; text = same; limited = few; inside = inside }))

-- the front that was read is that of the file
pub front_text : (file bytes : List ℕ) (len : ℕ) (s : Super) → IsSuper s → s.blocks * s.block ≤ len → (56 ≤ len → bytes ≡ take 56 file) → take 56 bytes ≡ superblock_text s → take 56 file ≡ superblock_text s
front_text file bytes len s is inside front text =
    let least = mul-le 4 512 s.blocks s.block is.least_blocks (sized s.block is.block).least in
    sym (take-take 56 56 file (omega arith)) ∙ ap (take 56) (sym (front (omega (arith, least, inside)))) ∙ text
