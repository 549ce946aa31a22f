-- The parts of the plan put together.
use Rattle.std.proofs.Common.{◌≡◌, ◌≤◌, ◌<◌, ◌+◌, ◌-◌, ◌*◌, ◌%◌, ◌^◌, ◌++◌, inl, inr, ℕ, zero, suc, cond, eqb, List, [], ◌∷◌, length, take, drop, get_or, All, Option, Result, Ok, Err, refl, sym, ap, subst, ◌∙◌, arith}
use Rattle.std.specs.Prelude.{IfOk}
use Rattle.std.specs.Global.{Vec}
use Rattle.std.specs.List.{AllByRecursion, flat_map}
use Rattle.std.proofs.lemmas.Bool.{cases_Bool}
use Rattle.std.proofs.lemmas.Nat.{mul-le}
use Rattle.msf_blocks.specs.declared.superblock.Super.{Super}
use Rattle.msf_blocks.specs.Blocks.{IsBlockSize, IsMap}
use Rattle.msf_blocks.specs.Edit.{StreamEdit}
use Rattle.msf_blocks.proofs.Sizes.{sized}
use Rattle.free_page_maps.specs.MapText.{map_text}
use Rattle.stream_directory.specs.Directory.{StreamBlocks, directory_text, word}
use Rattle.msf_image.specs.declared.image.Image.{Image}
use Rattle.msf_image.specs.Packed.{block_of, directory_len}
use Rattle.msf_image.specs.Reads.{IsWhole, used_blocks}
use Rattle.msf_image.proofs.Listed.{usable_inside}
use Rattle.msf_image.proofs.PackedFile.{listed_short}
use Rattle.cow_streams.specs.Edits.{AreEdits}
use Rattle.cow_streams.specs.Layout.{Part, kept, fresh, all_parts, laid, layouts, pieces}
use Rattle.cow_streams.specs.Planned.{FitsDirectory, Planned, Write, block_writes, blocks_of, free_after, given_blocks, image_of, map_writes, new_blocks, new_dir_blocks, new_dir_bytes, new_directory, new_free, new_head, new_layouts, new_listed, new_map_addr, new_pieces, planned, writes_to, written_count}
use Rattle.cow_streams.specs.Supply.{blocks_with, next_unreserved, supply, unreserved_from}
use Rattle.cow_streams.proofs.Contents.{below_count}
use Rattle.cow_streams.proofs.Lists.{each_append, each_take, each_weaker}
use Rattle.cow_streams.proofs.Numbering.{length-writes_to, writes-append}
use Rattle.cow_streams.proofs.Wholeness.{length-layouts, used_usable}
use Rattle.std.proofs.lemmas.List.Elements.{All-from_recursion, recursion_from_All}

pieces_le : (ps : List Part) → length (pieces ps) ≤ length ps
pieces_le [] = omega arith
pieces_le (kept b ∷ ps) = let rest = pieces_le ps in omega (arith, rest)
pieces_le (fresh x ∷ ps) = let rest = pieces_le ps in omega (arith, rest)

-- ---- blocks that fit in 31 bits

next_near : (size b : ℕ) → next_unreserved size b ≤ b + 2
next_near size b =
    let P = λ (n : ℕ). n ≤ b + 2 in
    elim (cases_Bool (eqb (b % size) 1)) [
      | inl one ↦ subst P (sym (ap (λ t. cond t (b + 2) (cond (eqb (b % size) 2) (b + 1) b)) one)) (omega arith)
      | inr not_one ↦
          subst P (sym (ap (λ t. cond t (b + 2) (cond (eqb (b % size) 2) (b + 1) b)) not_one))
          (elim (cases_Bool (eqb (b % size) 2)) [
            | inl two ↦ subst P (sym (ap (λ t. cond t (b + 1) b) two)) (omega arith)
            | inr not_two ↦ subst P (sym (ap (λ t. cond t (b + 1) b) not_two)) (omega arith)
          ])
    ]

run_small : (size b n most : ℕ) → b + 3 * n ≤ most → AllByRecursion (λ x. x < most) (unreserved_from size b n)
run_small size b zero most le = tt
run_small size b (suc n) most le =
    let near = next_near size b in
    (omega (arith, le, near), run_small size (next_unreserved size b + 1) n most (omega (arith, le, near)))

module _ (old : Image) (edits : List StreamEdit) where
  pub written_is : written_count old edits ≡ length (pieces (all_parts (layouts old.head.block edits old.directory)))
  unfolding written_count new_layouts
  written_is = refl

  pub bytes_are : directory_len (length old.directory) (length (all_parts (layouts old.head.block edits old.directory))) ≡ new_dir_bytes old edits
  unfolding new_dir_bytes new_layouts
  bytes_are = ap (λ n. directory_len n (length (all_parts (layouts old.head.block edits old.directory)))) (sym (length-layouts old.head.block edits old.directory))

  pub directory_is : laid (layouts old.head.block edits old.directory) (given_blocks old edits) ≡ new_directory old edits
  unfolding new_directory new_layouts
  directory_is = refl

  pub listed_is : take (new_dir_blocks old edits) (drop (written_count old edits) (given_blocks old edits)) ≡ new_listed old edits
  unfolding new_listed
  listed_is = refl

  pub addr_is : get_or (given_blocks old edits) (written_count old edits + new_dir_blocks old edits) 0 ≡ new_map_addr old edits
  unfolding new_map_addr
  addr_is = refl

  pub blocks_are : blocks_with old.head.blocks (given_blocks old edits) ≡ new_blocks old edits
  unfolding new_blocks
  blocks_are = refl

  pub record IsFew : Type 0 where
    pub written : written_count old edits ≤ 2 ^ 26
    pub count : written_count old edits + new_dir_blocks old edits + 1 ≤ 2 ^ 28
    pub bytes : new_dir_bytes old edits < 2 ^ 32
    pub short : 4 * new_dir_blocks old edits ≤ old.head.block
    pub some : 0 < new_dir_blocks old edits

  parts_few : new_dir_bytes old edits ≤ 2 ^ 28 → (written_count old edits ≤ 2 ^ 26) × (4 ≤ new_dir_bytes old edits)
  unfolding new_dir_bytes written_count
  parts_few le =
      let most = pieces_le (all_parts (new_layouts old edits)) in
      (omega (arith, most, le), omega arith)

  pub are_few : IsBlockSize old.head.block → FitsDirectory old edits → IsFew
  are_few h directory =
      let size = old.head.block in
      let most = (sized size h).most in
      let square = mul-le size size 32768 32768 most most in
      let bytes : new_dir_bytes old edits ≤ 2 ^ 28 = omega (arith, square, directory) in
      let parts = parts_few bytes in
      let short = listed_short size (new_dir_bytes old edits) h directory in
      let none : 0 * size ≡ 0 = omega arith in
      record {
        written = parts.0;
        count = omega (arith, parts.0, short, most);
        bytes = omega (arith, bytes);
        short = short;
        some = below_count size (new_dir_bytes old edits) 0 h (omega (arith, none, parts.1));
      }

  pub given_as : (blocks count : ℕ) → blocks ≡ old.head.blocks → count ≡ written_count old edits + new_dir_blocks old edits + 1 → supply old.head.block blocks old.free.free count ≡ given_blocks old edits
  unfolding given_blocks
  given_as blocks count same many = ap (λ b. supply old.head.block b old.free.free count) same ∙ ap (supply old.head.block old.head.blocks old.free.free) many

  pub given_small : IsWhole old → old.head.blocks ≤ 2 ^ 20 → IsFew → All (λ b. b < 2 ^ 31) (given_blocks old edits)
  unfolding given_blocks supply
  given_small whole few small =
      let free = old.free.free in
      let n = written_count old edits + new_dir_blocks old edits + 1 in
      let count = small.count in
      let Small = λ (b : ℕ). b < 2 ^ 31 in
      let left : old.head.blocks + 3 * (n - length free) ≤ 2 ^ 31 = omega (arith, few, count) in
      All-from_recursion Small (take n free ++ unreserved_from old.head.block old.head.blocks (n - length free))
      (each_append Small (take n free) (unreserved_from old.head.block old.head.blocks (n - length free))
      (each_take Small n free (each_weaker (λ b. b < old.head.blocks) Small free (λ b lt. omega (arith, lt, few)) (recursion_from_All (λ b. b < old.head.blocks) free whole.inside)))
      (run_small old.head.block old.head.blocks (n - length free) (2 ^ 31) left))

  pub head_from : (map blocks dir_bytes addr : ℕ) → map ≡ 3 - old.head.map → blocks ≡ new_blocks old edits → dir_bytes ≡ new_dir_bytes old edits → addr ≡ new_map_addr old edits
      → record { block = old.head.block; map = map; blocks = blocks; dir_bytes = dir_bytes; unknown = old.head.unknown; map_addr = addr } ≡ new_head old edits
  head_from map blocks dir_bytes addr e1 e2 e3 e4 = rw (e1, e2, e3, e4) refl

  pub inside_from : (head : Super) (listed : List ℕ) (d : List (Option StreamBlocks)) → IsWhole old → AreEdits old.head.block old.directory edits → head ≡ new_head old edits → listed ≡ new_listed old edits → d ≡ new_directory old edits
      → All (λ b. b < head.blocks) (used_blocks (head.map_addr ∷ listed) d)
  inside_from head listed d whole are e1 e2 e3 =
      let used = used_blocks (new_map_addr old edits ∷ new_listed old edits) (new_directory old edits) in
      let all = usable_inside (new_head old edits) [] used (used_usable old edits whole are) in
      let one = subst (λ (s : Super). All (λ b. b < s.blocks) (used_blocks (s.map_addr ∷ new_listed old edits) (new_directory old edits))) (sym e1) all in
      let two = subst (λ l. All (λ b. b < head.blocks) (used_blocks (head.map_addr ∷ l) (new_directory old edits))) (sym e2) one in
      subst (λ x. All (λ b. b < head.blocks) (used_blocks (head.map_addr ∷ listed) x)) (sym e3) two

  -- the new image and the writes
  abbrev finished : Super → List (Option StreamBlocks) → List ℕ → List Write → Planned
  finished head d listed writes = record { image = image_of head d (free_after head listed d); writes = writes ++ map_writes head (map_text head.block (free_after head listed d)) }

  finished_is : finished (new_head old edits) (new_directory old edits) (new_listed old edits) (block_writes old edits) ≡ planned old edits
  unfolding new_free
  finished_is = refl

  writes_are : (streams writes : List Write) → streams ≡ writes_to (pieces (all_parts (layouts old.head.block edits old.directory))) (given_blocks old edits)
      → writes ≡ streams ++ writes_to (blocks_of old.head.block (directory_text (new_directory old edits)) ++ block_of old.head.block (flat_map word (new_listed old edits)) 0 ∷ []) (drop (length streams) (given_blocks old edits)) → writes ≡ block_writes old edits
  unfolding new_pieces new_layouts
  writes_are streams writes first behind =
      let given = given_blocks old edits in
      let ps = pieces (all_parts (layouts old.head.block edits old.directory)) in
      let rest = blocks_of old.head.block (directory_text (new_directory old edits)) ++ block_of old.head.block (flat_map word (new_listed old edits)) 0 ∷ [] in
      behind ∙ ap (λ ws. ws ++ writes_to rest (drop (length ws) given)) first ∙ ap (λ n. writes_to ps given ++ writes_to rest (drop n given)) (length-writes_to ps given) ∙ sym (writes-append ps rest given)

  pub planned_from : (head : Super) (d : List (Option StreamBlocks)) (listed : List ℕ) (streams writes : List Write) (p : Planned) → head ≡ new_head old edits → d ≡ new_directory old edits → listed ≡ new_listed old edits
      → streams ≡ writes_to (pieces (all_parts (layouts old.head.block edits old.directory))) (given_blocks old edits)
      → writes ≡ streams ++ writes_to (blocks_of old.head.block (directory_text d) ++ block_of old.head.block (flat_map word listed) 0 ∷ []) (drop (length streams) (given_blocks old edits))
      → p.image ≡ image_of head d (free_after head listed d) → p.writes ≡ writes ++ map_writes head (map_text head.block (free_after head listed d)) → p ≡ planned old edits
  planned_from head d listed streams writes p e1 e2 e3 first behind image are =
      let given = given_blocks old edits in
      let rest = λ (x : List (Option StreamBlocks)) (l : List ℕ). blocks_of old.head.block (directory_text x) ++ block_of old.head.block (flat_map word l) 0 ∷ [] in
      let all = writes_are streams writes first (behind ∙ ap (λ x. streams ++ writes_to (rest x listed) (drop (length streams) given)) e2 ∙ ap (λ l. streams ++ writes_to (rest (new_directory old edits) l) (drop (length streams) given)) e3) in
      let made : Image → List Write → Planned = λ i ws. record { image = i; writes = ws } in
      ap (λ i. made i p.writes) image ∙ ap (made (image_of head d (free_after head listed d))) are ∙ ap (λ s. finished s d listed writes) e1 ∙ ap (λ x. finished (new_head old edits) x listed writes) e2
      ∙ ap (λ l. finished (new_head old edits) (new_directory old edits) l writes) e3 ∙ ap (finished (new_head old edits) (new_directory old edits) (new_listed old edits)) all ∙ finished_is

pub other_as : (map r : ℕ) → IsMap map → (map ≡ 1 → r ≡ 2) → (map ≡ 2 → r ≡ 1) → r ≡ 3 - map
other_as map r is first second = elim is [ inl one ↦ (let e = first one in omega (arith, e, one)) | inr two ↦ (let e = second two in omega (arith, e, two)) ]

pub both_ok : {E : Type 0} (r : Result Planned E) (P Q : Planned → Type 0) (x : Planned) → IfOk r P → IfOk r Q → ((p : Planned) → P p → Q p → p ≡ x) → IfOk r (λ p. p ≡ x)
both_ok (Ok p) P Q x one two is = is p one two
both_ok (Err e) P Q x one two is = tt

pub if_given : {E : Type 0} (r : Result (Vec ℕ) E) (xs : List ℕ) (P : List ℕ → Type 0) → IfOk r (λ v. v.items ≡ xs) → P xs → IfOk r (λ v. P v.items)
if_given (Ok v) xs P is holds = subst P (sym is) holds
if_given (Err e) xs P is holds = tt
