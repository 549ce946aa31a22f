-- A superblock passes every test exactly where its numbers are those of a superblock.
use Rattle.std.proofs.Common.{◌≡◌, ◌≤◌, ◌<◌, ◌*◌, ◌/◌, ◌^◌, ◌&&◌, ◌||◌, not, ℕ, Bool, true, List, [], ◌∷◌, None, refl, eqb, leb, ltb, inl, inr}
use Rattle.std.proofs.lemmas.Bool.{leb-true, le-leb, ltb-true, lt-ltb, eqb-true, eq-eqb, and_parts, and_from, or_cases, or_left, or_right, not-true, not_from_false, false_from_ne_true, both_ways}
use Rattle.msf_blocks.specs.declared.superblock.Super.{Super}
use Rattle.msf_blocks.specs.declared.superblock.SuperFault.{SuperFault}
use Rattle.msf_blocks.specs.declared.superblock.SuperFault.TheVariants.{BlockSize, FreeMap, Blocks, Directory, MapAddr}
use Rattle.msf_blocks.specs.Blocks.{is_block_size, is_reserved, IsMap}
use Rattle.msf_blocks.specs.Judging.{first_damage}
use Rattle.msf_blocks.specs.Superblock.{IsSuper, has_blocks, has_directory, has_map_addr, number_tests}
use Rattle.msf_blocks.proofs.Judging.{is_passed, was_passed}

map_from_test : (map : ℕ) → (eqb map 1 || eqb map 2) ≡ true → IsMap map
map_from_test map e =
    elim (or_cases (eqb map 1) (eqb map 2) e) [ inl one ↦ inl (eqb-true map 1 one) | inr two ↦ inr (eqb-true map 2 two) ]

test_from_map : (map : ℕ) → IsMap map → (eqb map 1 || eqb map 2) ≡ true
test_from_map map m =
    elim m [ inl one ↦ or_left (eqb map 1) (eqb map 2) (eq-eqb map 1 one) | inr two ↦ or_right (eqb map 1) (eqb map 2) (eq-eqb map 2 two) ]

-- what the last four tests leave
pub record Leaves (s : Super) (file_len limit : ℕ) : Type 0 where
  pub is_super : IsSuper s
  pub limited : s.blocks ≤ limit
  pub inside : s.blocks * s.block ≤ file_len

pub leaves : (s : Super) (file_len limit : ℕ) → s.blocks < 2 ^ 32 → s.unknown < 2 ^ 32 → first_damage (number_tests s file_len limit) ≡ None → Leaves s file_len limit
leaves s file_len limit few fits e =
    let t5 : List (Bool × SuperFault) = [] in
    let t4 : List (Bool × SuperFault) = (has_map_addr s, MapAddr) ∷ t5 in
    let t3 : List (Bool × SuperFault) = (has_directory s, Directory) ∷ t4 in
    let t2 : List (Bool × SuperFault) = (has_blocks s file_len limit, Blocks) ∷ t3 in
    let t1 : List (Bool × SuperFault) = (eqb s.map 1 || eqb s.map 2, FreeMap) ∷ t2 in
    let a = was_passed (is_block_size s.block) BlockSize t1 e in
    let b = was_passed (eqb s.map 1 || eqb s.map 2) FreeMap t2 a.1 in
    let c = was_passed (has_blocks s file_len limit) Blocks t3 b.1 in
    let d = was_passed (has_directory s) Directory t4 c.1 in
    let f = was_passed (has_map_addr s) MapAddr t5 d.1 in
    let blocks = and_parts (leb 4 s.blocks && leb s.blocks limit) (leb (s.blocks * s.block) file_len) c.0 in
    let counted = and_parts (leb 4 s.blocks) (leb s.blocks limit) blocks.0 in
    let dir = and_parts (leb 4 s.dir_bytes) (leb s.dir_bytes (s.block * s.block / 4)) d.0 in
    let addr = and_parts (not (is_reserved s.block s.map_addr)) (ltb s.map_addr s.blocks) f.0 in
    let limited = leb-true s.blocks limit counted.1 in
    record {
      is_super = record {
        block = a.0;
        map = map_from_test s.map b.0;
        least_blocks = leb-true 4 s.blocks counted.0;
        blocks_fit = few;
        least_dir_bytes = leb-true 4 s.dir_bytes dir.0;
        most_dir_bytes = leb-true s.dir_bytes (s.block * s.block / 4) dir.1;
        unknown_fits = fits;
        map_addr_unreserved = λ h. both_ways (is_reserved s.block s.map_addr) (not-true (is_reserved s.block s.map_addr) addr.0) h;
        map_addr_inside = ltb-true s.map_addr s.blocks addr.1;
      };
      limited = limited;
      inside = leb-true (s.blocks * s.block) file_len blocks.1;
    }

pub all_passed : (s : Super) (file_len limit : ℕ) → IsSuper s → s.blocks ≤ limit → s.blocks * s.block ≤ file_len → first_damage (number_tests s file_len limit) ≡ None
all_passed s file_len limit is limited inside =
    let t5 : List (Bool × SuperFault) = [] in
    let t4 : List (Bool × SuperFault) = (has_map_addr s, MapAddr) ∷ t5 in
    let t3 : List (Bool × SuperFault) = (has_directory s, Directory) ∷ t4 in
    let t2 : List (Bool × SuperFault) = (has_blocks s file_len limit, Blocks) ∷ t3 in
    let t1 : List (Bool × SuperFault) = (eqb s.map 1 || eqb s.map 2, FreeMap) ∷ t2 in
    let counted = and_from (leb 4 s.blocks) (leb s.blocks limit) (le-leb 4 s.blocks is.least_blocks) (le-leb s.blocks limit limited) in
    let blocks = and_from (leb 4 s.blocks && leb s.blocks limit) (leb (s.blocks * s.block) file_len) counted (le-leb (s.blocks * s.block) file_len inside) in
    let dir = and_from (leb 4 s.dir_bytes) (leb s.dir_bytes (s.block * s.block / 4)) (le-leb 4 s.dir_bytes is.least_dir_bytes) (le-leb s.dir_bytes (s.block * s.block / 4) is.most_dir_bytes) in
    let addr = and_from (not (is_reserved s.block s.map_addr)) (ltb s.map_addr s.blocks)
    (not_from_false (is_reserved s.block s.map_addr) (false_from_ne_true (is_reserved s.block s.map_addr) is.map_addr_unreserved)) (lt-ltb s.map_addr s.blocks is.map_addr_inside) in
    is_passed (is_block_size s.block) BlockSize t1 is.block
    (is_passed (eqb s.map 1 || eqb s.map 2) FreeMap t2 (test_from_map s.map is.map)
    (is_passed (has_blocks s file_len limit) Blocks t3 blocks
    (is_passed (has_directory s) Directory t4 dir
    (is_passed (has_map_addr s) MapAddr t5 addr refl))))
