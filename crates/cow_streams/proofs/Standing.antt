-- What is planned is a plan.
use Rattle.std.proofs.Common.{◌≡◌, ◌≤◌, ◌<◌, ◌+◌, ◌^◌, ℕ, zero, suc, List, [], ◌∷◌, length, drop, get_or, Option, Some, None, refl, ap, subst, ◌∙◌, arith}
use Rattle.std.proofs.lemmas.List.Elements.{All-from_recursion}
use Rattle.std.proofs.lemmas.List.FromFn.{get_or-map-range_with_len, length-map-range_with_len}
use Rattle.msf_blocks.specs.Blocks.{blocks_of_size}
use Rattle.msf_blocks.specs.Edit.{StreamEdit}
use Rattle.msf_blocks.proofs.Sizes.{sized}
use Rattle.stream_directory.specs.Directory.{StreamBlocks, stream_at}
use Rattle.msf_image.specs.declared.image.Image.{Image}
use Rattle.msf_image.specs.Reads.{IsWhole}
use Rattle.cow_streams.specs.Edits.{AreEdits, len_after}
use Rattle.cow_streams.specs.Layout.{kept, laid, laid_one, layout_of, layouts, layouts_from, part_at, part_by, parts_in, parts_of, pieces}
use Rattle.cow_streams.specs.Plan.{IsPlan, IsSparing, SharesBlocks}
use Rattle.cow_streams.specs.Planned.{FitsDirectory, Stands, block_writes, given_blocks, new_blocks, new_directory, new_head, new_layouts, planned, with_writes}
use Rattle.cow_streams.proofs.Lists.{each_weaker}
use Rattle.cow_streams.proofs.Numbering.{length-numbers, number_kept}
use Rattle.cow_streams.proofs.Turning.{keeps_old, takes_new}
use Rattle.cow_streams.proofs.Wholeness.{is_complete, is_whole}
use Rattle.cow_streams.proofs.Writes.{all_sparing, all_stand, blocks_once, kept_unreserved, kept_unwritten, rising}

-- ---- blocks that keep their numbers

shares_one : (size : ℕ) (edits : List StreamEdit) (i : ℕ) (x : Option StreamBlocks) (given : List ℕ) → SharesBlocks size edits i x (laid_one (layout_of size edits i x) given)
shares_one size edits i None given = tt
shares_one size edits i (Some stream) given =
    λ k lt none.
    let parts = parts_of size edits i stream in
    let n = blocks_of_size size (len_after edits i stream.size) in
    let f = part_at size edits i stream.blocks in
    let there : k < length parts = omega (arith, lt, length-numbers parts given) in
    number_kept parts given k (get_or stream.blocks k 0) (kept 0) there
    (get_or-map-range_with_len f 0 n k k (kept 0) (omega (arith, there, length-map-range_with_len f 0 n)) (omega arith) ∙ ap (part_by size stream.blocks k) none)

shares_from : (size : ℕ) (edits : List StreamEdit) (i : ℕ) (streams : List (Option StreamBlocks)) (given : List ℕ) (k : ℕ) → SharesBlocks size edits (i + k) (get_or streams k None) (get_or (laid (layouts_from size edits i streams) given) k None)
shares_from size edits i [] given k = tt
shares_from size edits i (x ∷ streams) given zero =
    let same : i ≡ i + 0 = omega arith in
    subst (λ j. SharesBlocks size edits j x (laid_one (layout_of size edits i x) given)) same (shares_one size edits i x given)
shares_from size edits i (x ∷ streams) given (suc k) =
    let more = drop (length (pieces (parts_in (layout_of size edits i x)))) given in
    let same : i + 1 + k ≡ i + suc k = omega arith in
    subst (λ j. SharesBlocks size edits j (get_or streams k None) (get_or (laid (layouts_from size edits (i + 1) streams) more) k None)) same (shares_from size edits (i + 1) streams more k)

shares_all : (size : ℕ) (edits : List StreamEdit) (streams : List (Option StreamBlocks)) (given : List ℕ) (i : ℕ) → 1 ≤ i → SharesBlocks size edits i (stream_at streams i) (stream_at (laid (layouts size edits streams) given) i)
unfolding layouts
shares_all size edits [] given i some = tt
shares_all size edits (x ∷ streams) given zero some = absurd (omega (arith, some))
shares_all size edits (x ∷ streams) given (suc k) some =
    let same : 1 + k ≡ suc k = omega arith in
    subst (λ j. SharesBlocks size edits j (get_or streams k None) (get_or (laid (layouts_from size edits 1 streams) given) k None)) same (shares_from size edits 1 streams given k)

shares_planned : (old : Image) (edits : List StreamEdit) (i : ℕ) → 1 ≤ i → SharesBlocks old.head.block edits i (stream_at old.directory i) (stream_at (new_directory old edits) i)
unfolding new_directory new_layouts
shares_planned old edits i some = shares_all old.head.block edits old.directory (given_blocks old edits) i some

-- ---- the plan

pub plan_is : (limit : ℕ) (old : Image) (edits : List StreamEdit) → IsWhole old → AreEdits old.head.block old.directory edits → limit < 2 ^ 32 → FitsDirectory old edits → new_blocks old edits ≤ limit → IsPlan limit old edits (planned old edits)
unfolding is_whole
plan_is limit old edits whole are fits directory few =
    let p = planned old edits in
    let size = old.head.block in
    let least = (sized size whole.head.block).least in
    let sparing = all_sparing old edits limit whole fits directory few in
    let all = All-from_recursion (IsSparing old (new_head old edits)) p.writes sparing in
    record {
      whole = is_whole old edits limit whole are fits directory few;
      limited = few;
      complete = is_complete old edits;
      block = refl;
      unknown = refl;
      other_map = refl;
      news = block_writes old edits;
      order = refl;
      rising = rising old edits whole;
      sparing = all;
      stand = λ file.
          All-from_recursion (Stands size (with_writes size file p.writes)) p.writes
          (all_stand size file p.writes (omega (arith, least)) (each_weaker (IsSparing old (new_head old edits)) (λ w. length w.bytes ≡ size) p.writes (λ w is. is.whole) sparing) (blocks_once old edits whole));
      shares = shares_planned old edits;
      unwritten = kept_unwritten old edits whole are;
      unreserved = kept_unreserved old edits whole are;
      keeps = keeps_old limit old (new_head old edits) p.writes all;
      takes = λ streams file other r takes. takes_new limit old edits whole are fits directory few streams file other r takes;
    }
