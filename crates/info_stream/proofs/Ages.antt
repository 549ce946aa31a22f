-- The stream as it is written is read again.
use Rattle.std.proofs.Common.{◌≡◌, ◌≤◌, ◌<◌, ◌^◌, ℕ, List, [], ◌∷◌, ◌++◌, Ok, Some, None, cond, length, take, drop, codes, refl, sym, ap, ◌∙◌, arith, le-leb}
use Rattle.std.proofs.lemmas.List.{drop-drop, length-append, length-drop, length-take-le}
use Rattle.byteorder.specs.Endian.{little_bytes, little_number}
use Rattle.byteorder.specs.Numbers.{little_number-reads_back}
use Rattle.msf_blocks.specs.Judging.{◌>>=◌}
use Rattle.info_stream.specs.Named.{age_in, behind_guid, map_in, named_streams, stream_in, stream_named}
use Rattle.info_stream.specs.Reading.{counted, number, numbers}
use Rattle.info_stream.specs.Text.{new_info, new_map, with_age}
use Rattle.info_stream.proofs.Fitting.{field_fits, number_fits}

drop_front : (front rest : List ℕ) → drop (length front) (front ++ rest) ≡ rest
drop_front [] rest = refl
drop_front (b ∷ front) rest = drop_front front rest

-- what stands behind a first part of n bytes
pub behind_front : (n : ℕ) (front rest : List ℕ) → length front ≡ n → drop n (front ++ rest) ≡ rest
behind_front n front rest len = ap (λ k. drop k (front ++ rest)) (sym len) ∙ drop_front front rest

pub behind_guid-long : (info : List ℕ) → 28 ≤ length info → behind_guid info ≡ Ok (drop 28 info)
unfolding behind_guid
behind_guid-long info le = grind (arith, number_fits, field_fits, drop-drop, length-drop)

pub named-long : (info name : List ℕ) → 28 ≤ length info → stream_named info name ≡ (map_in (length info) (drop 28 info) >>= stream_in name)
unfolding stream_named named_streams
named-long info name le = ap (λ r. r >>= map_in (length info) >>= stream_in name) (behind_guid-long info le)

pub length-with_age : (info : List ℕ) (age : ℕ) → 28 ≤ length info → length (with_age info age) ≡ length info
length-with_age info age le =
    length-append (take 8 info) (little_bytes 4 age ++ drop 12 info) ∙ omega (arith, le, length-take-le 8 info (omega (arith, le)), length-drop 12 info)

behind_eight : (info : List ℕ) (age : ℕ) → 28 ≤ length info → drop 8 (with_age info age) ≡ little_bytes 4 age ++ drop 12 info
behind_eight info age le = behind_front 8 (take 8 info) (little_bytes 4 age ++ drop 12 info) (length-take-le 8 info (omega (arith, le)))

pub age_in-with_age : (info : List ℕ) (age : ℕ) → 28 ≤ length info → age < 2 ^ 32 → age_in (with_age info age) ≡ Some age
unfolding age_in
age_in-with_age info age le lt =
    let number : little_number 4 (drop 8 (with_age info age)) ≡ age = ap (little_number 4) (behind_eight info age le) ∙ little_number-reads_back 4 age (drop 12 info) lt in
    ap (λ b. cond b (Some (little_number 4 (drop 8 (with_age info age)))) None) (le-leb 12 (length (with_age info age)) (omega (arith, le, length-with_age info age le))) ∙ ap Some number

pub named-with_age : (info name : List ℕ) (age : ℕ) → 28 ≤ length info → stream_named (with_age info age) name ≡ stream_named info name
named-with_age info name age le =
    let new = with_age info age in
    let len = length-with_age info age le in
    let behind : drop 28 new ≡ drop 28 info =
    sym (drop-drop 20 8 new) ∙ ap (drop 20) (behind_eight info age le) ∙ drop-drop 16 12 info in
    named-long new name (omega (arith, le, len)) ∙ ap (λ n. map_in n (drop 28 new) >>= stream_in name) len ∙ ap (λ xs. map_in (length info) xs >>= stream_in name) behind
    ∙ sym (named-long info name le)

-- ---- a new file's stream

abbrev new_rest : List ℕ
new_rest = new_map ++ little_bytes 4 20140508

abbrev new_front : ℕ → List ℕ
new_front signature = little_bytes 4 20000404 ++ (little_bytes 4 signature ++ little_bytes 4 1)

pub length-new_info : (guid : List ℕ) (signature : ℕ) → length guid ≡ 16 → length (new_info guid signature) ≡ 75
unfolding new_info
length-new_info guid signature len = length-append (new_front signature) (guid ++ new_rest) ∙ omega (arith, len, length-append guid new_rest)

pub age_in-new_info : (guid : List ℕ) (signature : ℕ) → length guid ≡ 16 → age_in (new_info guid signature) ≡ Some 1
unfolding age_in new_info
age_in-new_info guid signature len =
    let info = new_info guid signature in
    ap (λ b. cond b (Some (little_number 4 (drop 8 info))) None) (le-leb 12 (length info) (omega (arith, length-new_info guid signature len)))

new_map_read : (whole : ℕ) → (map_in whole new_rest >>= stream_in (codes "/names")) ≡ Ok 7
unfolding map_in counted number numbers lib.Count.ones
new_map_read whole = refl

drop-new_info : (guid : List ℕ) (signature : ℕ) → length guid ≡ 16 → drop 28 (new_info guid signature) ≡ new_rest
unfolding new_info
drop-new_info guid signature len = behind_front 16 guid new_rest len

pub named-new_info : (guid : List ℕ) (signature : ℕ) → length guid ≡ 16 → stream_named (new_info guid signature) (codes "/names") ≡ Ok 7
named-new_info guid signature len =
    let info = new_info guid signature in
    named-long info (codes "/names") (omega (arith, length-new_info guid signature len)) ∙ ap (λ xs. map_in (length info) xs >>= stream_in (codes "/names")) (drop-new_info guid signature len)
    ∙ new_map_read (length info)
