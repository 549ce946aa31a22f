-- The superblock: what is read was written so, and what is written is read again.
use Rattle.std.proofs.Common.{◌≡◌, ◌≤◌, ◌<◌, ◌+◌, ◌*◌, ◌^◌, ◌&&◌, ℕ, true, List, [], ◌++◌, Some, None, Result, Ok, Err, length, take, drop, refl, sym, ap, subst, ◌∙◌, arith, cond, leb, nat_eq, lit≤, inl, inr}
use Rattle.std.specs.Prelude.{IfOk}
use Rattle.std.specs.List.{starts_with}
use Rattle.std.proofs.lemmas.Bool.{leb-true, le-leb, and_parts, and_from}
use Rattle.std.proofs.lemmas.Bool.Decides.{Decides-eqb}
use Rattle.std.proofs.lemmas.List.{take_at, length-take, take-append-drop, length-drop}
use Rattle.std.proofs.lemmas.Nat.{mul-le}
use Rattle.std.proofs.lemmas.Slice.Eq.{starts_is}
use Rattle.byteorder.specs.Endian.{little_bytes, little_number}
use Rattle.msf_blocks.specs.declared.superblock.Super.{Super}
use Rattle.msf_blocks.specs.declared.superblock.SuperFault.{SuperFault}
use Rattle.msf_blocks.specs.declared.superblock.SuperFault.TheVariants.{Magic}
use Rattle.msf_blocks.specs.Judging.{first_damage, unless}
use Rattle.msf_blocks.specs.Superblock.{IsSuper, magic, has_magic, number_tests, numbers_of, superblock_tests, superblock_text, superblock_told}
use Rattle.msf_blocks.proofs.Numbers.{AreBytes, AreBytes-drop, little_number-lt, little_bytes-little_number, little_number-little_bytes, take_further}
use Rattle.msf_blocks.proofs.Sizes.{IsBlockSize-le, IsBlockSize-ge, IsSuper-dir_bytes-lt}
use Rattle.msf_blocks.proofs.Judging.{is_passed, unless_err, unless_ok, was_passed}
use Rattle.msf_blocks.proofs.Passing.{leaves, all_passed}

-- what a front with the magic is
pub record Begins (bytes : List ℕ) (file_len : ℕ) : Type 0 where
  pub long : 56 ≤ length bytes
  pub front : take 32 bytes ≡ magic

begins : (bytes : List ℕ) (file_len : ℕ) → has_magic bytes file_len ≡ true → Begins bytes file_len
unfolding has_magic
begins bytes file_len e =
    let a = and_parts (leb 56 file_len && leb 56 (length bytes)) (starts_with nat_eq bytes magic) e in
    let b = and_parts (leb 56 file_len) (leb 56 (length bytes)) a.0 in
    let is = (starts_is Decides-eqb bytes magic (starts_with nat_eq bytes magic) refl).0 a.1 in
    record { long = leb-true 56 (length bytes) b.1; front = ap (take 32) is ∙ take_at magic (drop 32 bytes) 32 refl }

-- the text of the numbers that were read
text_of_numbers : (bytes : List ℕ) (file_len : ℕ) → AreBytes bytes → Begins bytes file_len → take 56 bytes ≡ superblock_text (numbers_of bytes)
unfolding superblock_text
text_of_numbers bytes file_len fits b =
    let field : (k : ℕ) → k + 4 ≤ 56 → take (k + 4) bytes ≡ take k bytes ++ little_bytes 4 (little_number 4 (drop k bytes)) =
    λ k long. take_further k 4 bytes
    ∙ ap (λ xs. take k bytes ++ xs) (sym (little_bytes-little_number (drop k bytes) (AreBytes-drop k bytes fits) (omega (arith, b.long, length-drop k bytes)))) in
    let more = λ (k : ℕ) (front : List ℕ) (is : take k bytes ≡ front) (long : k + 4 ≤ 56).
    field k long ∙ ap (λ xs. xs ++ little_bytes 4 (little_number 4 (drop k bytes))) is in
    let t1 = magic ++ little_bytes 4 (numbers_of bytes).block in
    let t2 = t1 ++ little_bytes 4 (numbers_of bytes).map in
    let t3 = t2 ++ little_bytes 4 (numbers_of bytes).blocks in
    let t4 = t3 ++ little_bytes 4 (numbers_of bytes).dir_bytes in
    let t5 = t4 ++ little_bytes 4 (numbers_of bytes).unknown in
    more 52 t5 (more 48 t4 (more 44 t3 (more 40 t2 (more 36 t1 (more 32 magic b.front (lit≤ tt)) (lit≤ tt)) (lit≤ tt)) (lit≤ tt)) (lit≤ tt)) (lit≤ tt)

same_super : (block map blocks dir_bytes unknown map_addr : ℕ) (s : Super) → block ≡ s.block → map ≡ s.map → blocks ≡ s.blocks → dir_bytes ≡ s.dir_bytes → unknown ≡ s.unknown → map_addr ≡ s.map_addr
    → record { block = block; map = map; blocks = blocks; dir_bytes = dir_bytes; unknown = unknown; map_addr = map_addr } ≡ s
same_super block map blocks dir_bytes unknown map_addr s e1 e2 e3 e4 e5 e6 = rw (e1, e2, e3, e4, e5, e6) refl

-- the numbers of the text that was written
numbers_of_text : (s : Super) (rest : List ℕ) → IsSuper s → numbers_of (superblock_text s ++ rest) ≡ s
unfolding superblock_text
numbers_of_text s rest is =
    let size = IsBlockSize-le s.block is.block in
    let map : s.map < 2 ^ 32 = elim is.map [ inl one ↦ omega (arith, one) | inr two ↦ omega (arith, two) ] in
    let addr : s.map_addr < 2 ^ 32 = omega (arith, is.blocks_fit, is.map_addr_inside) in
    let again = λ (n : ℕ) (lt : n < 2 ^ 32). little_number-little_bytes n [] lt in
    same_super _ _ _ _ _ _ s (again s.block (omega (arith, size))) (again s.map map) (again s.blocks is.blocks_fit) (again s.dir_bytes (IsSuper-dir_bytes-lt s is)) (again s.unknown is.unknown_fits) (again s.map_addr addr)

-- what a front of bytes that is the text begins with
begins_of_text : (bytes : List ℕ) (file_len : ℕ) (s : Super) → 56 ≤ file_len → take 56 bytes ≡ superblock_text s → has_magic bytes file_len ≡ true
unfolding has_magic superblock_text
begins_of_text bytes file_len s enough e =
    let len : length (take 56 bytes) ≡ 56 = ap length e in
    let long : 56 ≤ length bytes = omega (arith, len, length-take 56 bytes) in
    let whole : bytes ≡ take 56 bytes ++ drop 56 bytes = sym (take-append-drop 56 bytes) in
    let rest = drop 32 (superblock_text s) ++ drop 56 bytes in
    let split : bytes ≡ magic ++ rest = whole ∙ ap (λ xs. xs ++ drop 56 bytes) e in
    let starts = (starts_is Decides-eqb bytes magic (starts_with nat_eq bytes magic) refl).1 rest split in
    and_from (leb 56 file_len && leb 56 (length bytes)) (starts_with nat_eq bytes magic)
    (and_from (leb 56 file_len) (leb 56 (length bytes)) (le-leb 56 file_len enough) (le-leb 56 (length bytes) long)) starts

-- what is read passes every test, and is spelled so
pub record Found (bytes : List ℕ) (file_len limit : ℕ) (s : Super) : Type 0 where
  pub is_super : IsSuper s
  pub text : take 56 bytes ≡ superblock_text s
  pub limited : s.blocks ≤ limit
  pub inside : s.blocks * s.block ≤ file_len

found_numbers : (bytes : List ℕ) (file_len limit : ℕ) → AreBytes bytes → first_damage (superblock_tests bytes file_len limit) ≡ None → Found bytes file_len limit (numbers_of bytes)
found_numbers bytes file_len limit fits e =
    let s = numbers_of bytes in
    let a = was_passed (has_magic bytes file_len) Magic (number_tests s file_len limit) e in
    let blocks = little_number-lt (drop 40 bytes) (AreBytes-drop 40 bytes fits) in
    let unknown = little_number-lt (drop 48 bytes) (AreBytes-drop 48 bytes fits) in
    let l = leaves s file_len limit blocks unknown a.1 in
    record { is_super = l.is_super; text = text_of_numbers bytes file_len fits (begins bytes file_len a.0); limited = l.limited; inside = l.inside }

-- the answer at a superblock
pub found_ok : (bytes : List ℕ) (file_len limit : ℕ) (s : Super) → AreBytes bytes → superblock_told bytes file_len limit ≡ Ok s → Found bytes file_len limit s
found_ok bytes file_len limit s fits e =
    let is = unless_ok (first_damage (superblock_tests bytes file_len limit)) (numbers_of bytes) s e in
    subst (Found bytes file_len limit) is.1 (found_numbers bytes file_len limit fits is.0)

pub found : (bytes : List ℕ) (file_len limit : ℕ) (r : Result Super SuperFault) (P : Super → Type 0) → AreBytes bytes → r ≡ superblock_told bytes file_len limit
    → ((s : Super) → Found bytes file_len limit s → P s) → IfOk r P
found bytes file_len limit (Ok s) P fits is gives = gives s (found_ok bytes file_len limit s fits (sym is))
found bytes file_len limit (Err f) P fits is gives = tt

-- what is spelled so passes every test
pub passes : (bytes : List ℕ) (file_len limit : ℕ) (s : Super) → Found bytes file_len limit s → (first_damage (superblock_tests bytes file_len limit) ≡ None) × (numbers_of bytes ≡ s)
passes bytes file_len limit s f =
    let whole : bytes ≡ superblock_text s ++ drop 56 bytes = sym (take-append-drop 56 bytes) ∙ ap (λ xs. xs ++ drop 56 bytes) f.text in
    let same : numbers_of bytes ≡ s = ap numbers_of whole ∙ numbers_of_text s (drop 56 bytes) f.is_super in
    let least = mul-le 4 512 s.blocks s.block f.is_super.least_blocks (IsBlockSize-ge s.block f.is_super.block) in
    let begun = begins_of_text bytes file_len s (omega (arith, least, f.inside)) f.text in
    let tests = all_passed s file_len limit f.is_super f.limited f.inside in (
      is_passed (has_magic bytes file_len) Magic (number_tests (numbers_of bytes) file_len limit) begun
          (subst (λ x. first_damage (number_tests x file_len limit) ≡ None) (sym same) tests),
      same,
    )

pub told_again : (bytes : List ℕ) (file_len limit : ℕ) (s : Super) → Found bytes file_len limit s → superblock_told bytes file_len limit ≡ Ok s
told_again bytes file_len limit s f =
    let p = passes bytes file_len limit s f in ap (λ found. unless found (numbers_of bytes)) p.0 ∙ ap Ok p.1

-- what the tests of the numbers tell, behind the magic
pub judged_ok : {U : Type 0} (u v : U) (bytes : List ℕ) (file_len limit : ℕ) (s : Super) → s ≡ numbers_of bytes → has_magic bytes file_len ≡ true → unless (first_damage (number_tests s file_len limit)) u ≡ Ok v
    → superblock_told bytes file_len limit ≡ Ok s
judged_ok u v bytes file_len limit s is begins passed =
    let none = (unless_ok (first_damage (number_tests s file_len limit)) u v passed).0 in
    ap (λ found. unless found (numbers_of bytes)) (is_passed (has_magic bytes file_len) Magic (number_tests (numbers_of bytes) file_len limit) begins (subst (λ x. first_damage (number_tests x file_len limit) ≡ None) is none)) ∙ ap Ok (sym is)

pub judged_err : {U : Type 0} (u : U) (bytes : List ℕ) (file_len limit : ℕ) (s : Super) (fault : SuperFault) → s ≡ numbers_of bytes → has_magic bytes file_len ≡ true → unless (first_damage (number_tests s file_len limit)) u ≡ Err fault
    → superblock_told bytes file_len limit ≡ Err fault
judged_err u bytes file_len limit s fault is begins failed =
    let some = unless_err (first_damage (number_tests s file_len limit)) u fault failed in
    ap (λ t. unless (cond t (first_damage (number_tests (numbers_of bytes) file_len limit)) (Some Magic)) (numbers_of bytes)) begins
    ∙ ap (λ x. unless (first_damage (number_tests x file_len limit)) (numbers_of bytes)) (sym is) ∙ ap (λ found. unless found (numbers_of bytes)) some
