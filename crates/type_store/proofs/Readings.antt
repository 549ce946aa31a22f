-- The streams of an opened file, one read after another.
use Rattle.std.proofs.Common.{◌≡◌, ◌≤◌, ◌<◌, ◌+◌, ◌^◌, ◌==◌, ◌&&◌, ℕ, zero, suc, Bool, true, false, not, cond, nat_le, List, [], ◌∷◌, ◌++◌, length, All, Option, None, Some, Result, Ok, Err, refl, sym, ap, subst, ◌∙◌, arith, length-append}
use Rattle.std.specs.Prelude.{is_none}
use Rattle.std.specs.List.{AllByRecursion, list_any}
use Rattle.byteorder.specs.Endian.{little_number}
use Rattle.srv_edge.specs.Records.{joined}
use Rattle.leaf_grammar.specs.declared.grammar.Space.{Space}
use Rattle.msf_blocks.specs.declared.superblock.Super.{Super}
use Rattle.msf_blocks.specs.Judging.{◌>>=◌, told_by}
use Rattle.stream_directory.specs.Directory.{StreamBlocks, stream_at}
use Rattle.msf_image.specs.declared.fault.Damage.{Damage}
use Rattle.msf_image.specs.declared.fault.DamageKind.TheVariants as kind
use Rattle.msf_image.specs.declared.image.Image.{Image}
use Rattle.msf_image.specs.Relation.{stream_in}
use Rattle.tpi_stream.specs.declared.reading.Records.{Records}
use Rattle.tpi_stream.specs.Reading as records
use Rattle.names_table.specs.Names.{Names}
use Rattle.names_table.specs.Reading as names
use Rattle.table_model.specs.Bounds.{Bounds}
use Rattle.type_store.specs.Commits.{contents_of}
use Rattle.type_store.specs.Faults.{absent_damage, damage_at, hash_damage, names_damage, record_damage}
use Rattle.type_store.specs.Holds.{Contents, content_at, content_apart, is_apart, names_held, records_held, stream_of, there, with_hashes}
use Rattle.type_store.specs.Opening.{is_apart_in, names_told, records_told}
use Rattle.type_store.proofs.Contents.{content_is}

-- ---- streams that stand apart

absent_is : (file : List ℕ) (s : Super) (x : Option StreamBlocks) → is_none (stream_in file s x) ≡ is_none x
absent_is file s None = refl
absent_is file s (Some stream) = refl

by_number : (file : List ℕ) (image : Image) (others : List ℕ) (i : ℕ)
    → (nat_le 5 i && (not (is_none (content_at (contents_of file image) i)) && not (list_any (λ other. other == i) others))) ≡ is_apart_in image.directory others i
by_number file image others zero = refl
by_number file image others (suc i) =
    let same = ap is_none (content_is file image (suc i) (omega arith)) ∙ absent_is file image.head (stream_at image.directory (suc i)) in
    ap (λ b. nat_le 5 (suc i) && (not b && not (list_any (λ other. other == suc i) others))) same

-- that a stream stands apart is told by the directory
pub apart_is : (file : List ℕ) (image : Image) (others : List ℕ) (i : ℕ) → is_apart (contents_of file image) others i ≡ is_apart_in image.directory others i
unfolding is_apart
apart_is file image others i = by_number file image others i

-- ---- records

bind_bind : {A B C E : Type 0} (a : Result A E) (b : A → Result B E) (c : B → Result C E) → (a >>= λ x. b x >>= c) ≡ ((a >>= b) >>= c)
bind_bind (Ok x) b c = refl
bind_bind (Err e) b c = refl

-- the records of a stream, judged before the number of their hash stream
pub records_are : (bounds : Bounds) (contents : Contents) (space : Space) (others : List ℕ)
    → records_held bounds contents space others ≡ (records_told bounds contents space >>= λ (found : Records). with_hashes (is_apart contents others found.header.hash_stream) space found)
unfolding records_held
records_are bounds contents space others =
    bind_bind (there (absent_damage space) (content_at contents (stream_of space))) (λ stream. told_by (record_damage space) (records.reading bounds.records bounds.bytes stream))
    (λ (found : Records). with_hashes (is_apart contents others found.header.hash_stream) space found)

pub records_judged : (bounds : Bounds) (contents : Contents) (space : Space) (others : List ℕ) (read : Records) (apart : Bool) → records_told bounds contents space ≡ Ok read
    → is_apart contents others read.header.hash_stream ≡ apart → records_held bounds contents space others ≡ with_hashes apart space read
records_judged bounds contents space others read apart told is =
    records_are bounds contents space others ∙ ap (λ r. r >>= λ (found : Records). with_hashes (is_apart contents others found.header.hash_stream) space found) told
    ∙ ap (λ b. with_hashes b space read) is

-- ---- names

names_by : (may : Bool) (i : ℕ) (content : Option (List ℕ)) (judged : List ℕ → Result Names Damage) → may ≡ false
    → (there (damage_at kind.NamesStream i) (cond may content None) >>= judged) ≡ Err (damage_at kind.NamesStream i)
names_by true i content judged is = absurd cc
names_by false i content judged is = refl

pub names_not_apart : (bounds : Bounds) (contents : Contents) (others : List ℕ) (i : ℕ) → is_apart contents others i ≡ false → names_held bounds contents others i ≡ Err (damage_at kind.NamesStream i)
unfolding names_held
names_not_apart bounds contents others i is =
    names_by (is_apart contents others i) i (content_at contents i) (λ stream. told_by names_damage (names.reading bounds.name_bytes stream)) is

names_with : (may : Bool) (damage : Damage) (content : Option (List ℕ)) (judged : List ℕ → Result Names Damage) → may ≡ true → (there damage (cond may content None) >>= judged) ≡ (there damage content >>= judged)
names_with true damage content judged is = refl
names_with false damage content judged is = absurd cc

-- the names of a stream that stands apart
pub names_judged : (bounds : Bounds) (contents : Contents) (others : List ℕ) (i : ℕ) → is_apart contents others i ≡ true
    → names_held bounds contents others i ≡ names_told bounds contents i
unfolding names_held
names_judged bounds contents others i is =
    names_with (is_apart contents others i) (damage_at kind.NamesStream i) (content_at contents i) (λ stream. told_by names_damage (names.reading bounds.name_bytes stream)) is
