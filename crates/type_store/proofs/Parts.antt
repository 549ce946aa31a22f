-- What is known of contents that hold something.
use Rattle.std.proofs.Common.{◌≡◌, ◌≢◌, ◌≤◌, ◌==◌, ◌&&◌, ◌||◌, ℕ, Bool, true, false, not, cond, List, [], ◌∷◌, Option, None, Some, unwrap_or, Ok, codes, is_none, refl, ap, ◌∙◌, subst, leb, leb-true, eqb}
use Rattle.std.specs.List.{list_any}
use Rattle.std.proofs.lemmas.Bool.{and_parts, eqb-false, not-true}
use Rattle.msf_blocks.specs.Judging.{◌>>=◌, told_by}
use Rattle.msf_blocks.proofs.Judging.{bound_ok, told_by_ok}
use Rattle.table_model.specs.Bounds.{Bounds}
use Rattle.leaf_grammar.specs.declared.grammar.Space.{Space}
use Rattle.leaf_grammar.specs.declared.grammar.Space.TheVariants.{Types, Items}
use Rattle.msf_image.specs.declared.fault.Damage.{Damage}
use Rattle.msf_image.specs.declared.fault.DamageKind.TheVariants as kind
use Rattle.info_stream.specs.Named.{age_in, stream_named}
use Rattle.tpi_stream.specs.declared.reading.Records.{Records}
use Rattle.tpi_stream.specs.Reading as records
use Rattle.tpi_stream.proofs.WrittenStreams.{read_can}
use Rattle.names_table.specs.Names.{Names}
use Rattle.names_table.specs.Reading as names
use Rattle.type_store.specs.Faults.{absent_damage, damage_at, info_damage, names_damage, record_damage}
use Rattle.type_store.specs.Holds.{Contents, Held, content_apart, content_at, holding, info_in, is_apart, names_held, records_held, stream_of, there, with_hashes}
use Rattle.type_store.specs.Written.{CanKeep, HaveBytes, numbers_of}

-- what each part of the judgement gave
pub record Parts (limits : Bounds) (contents : Contents) (held : Held) : Type 0 where
  pub info : info_in contents ≡ Ok (held.names_stream, held.age)
  pub types : records_held limits contents Types [] ≡ Ok held.types
  pub items : records_held limits contents Items (held.types.header.hash_stream ∷ []) ≡ Ok held.items
  pub names : names_held limits contents (held.types.header.hash_stream ∷ held.items.header.hash_stream ∷ []) held.names_stream ≡ Ok held.names

abbrev made : ℕ × ℕ → Records → Records → Names → Held
made info types items table = record { age = info.1; types = types; items = items; names_stream = info.0; names = table }

pub parts : (limits : Bounds) (contents : Contents) (held : Held) → holding limits contents ≡ Ok held → Parts limits contents held
unfolding holding
parts limits contents held e =
    let i = bound_ok (info_in contents) (λ info. records_held limits contents Types [] >>= λ types. records_held limits contents Items (types.header.hash_stream ∷ []) >>= λ items.
    names_held limits contents (types.header.hash_stream ∷ items.header.hash_stream ∷ []) info.0 >>= λ table. Ok (made info types items table)) held e in
    let t = bound_ok (records_held limits contents Types []) (λ types. records_held limits contents Items (types.header.hash_stream ∷ []) >>= λ items.
    names_held limits contents (types.header.hash_stream ∷ items.header.hash_stream ∷ []) i.0.0 >>= λ table. Ok (made i.0 types items table)) held i.2 in
    let s = bound_ok (records_held limits contents Items (t.0.header.hash_stream ∷ [])) (λ items.
    names_held limits contents (t.0.header.hash_stream ∷ items.header.hash_stream ∷ []) i.0.0 >>= λ table. Ok (made i.0 t.0 items table)) held t.2 in
    let n = bound_ok (names_held limits contents (t.0.header.hash_stream ∷ s.0.header.hash_stream ∷ []) i.0.0) (λ table. Ok (made i.0 t.0 s.0 table)) held s.2 in
    let same : made i.0 t.0 s.0 n.0 ≡ held = cc in
    let all : Parts limits contents (made i.0 t.0 s.0 n.0) = record { info = i.1; types = t.1; items = s.1; names = n.1 } in
    subst (λ h. Parts limits contents h) same all

-- ---- each part

there_ok : (damage : Damage) (o : Option (List ℕ)) (x : List ℕ) → there damage o ≡ Ok x → o ≡ Some x
there_ok damage None x e = absurd cc
there_ok damage (Some y) x e = let same : y ≡ x = cc in ap Some same

hashes_ok : (may : Bool) (space : Space) (x y : Records) → with_hashes may space x ≡ Ok y → (may ≡ true) × (x ≡ y)
hashes_ok true space x y e = (refl, cc)
hashes_ok false space x y e = absurd cc

-- the PDB stream names the stream of names
pub info_found : (contents : Contents) (number age : ℕ) → info_in contents ≡ Ok (number, age) → (info : List ℕ) × (content_at contents 1 ≡ Some info) × (stream_named info (codes "/names") ≡ Ok number)
unfolding info_in
info_found contents number age e =
    let s = bound_ok (there (damage_at kind.InfoShort 0) (content_at contents 1)) (λ info. told_by info_damage (stream_named info (codes "/names")) >>= λ n. Ok (n, unwrap_or (age_in info) 0)) (number, age) e in
    let n = bound_ok (told_by info_damage (stream_named s.0 (codes "/names"))) (λ n. Ok (n, unwrap_or (age_in s.0) 0)) (number, age) s.2 in
    let both : (n.0, unwrap_or (age_in s.0) 0) ≡ (number, age) = cc in
    let same : n.0 ≡ number = ap (λ (p : ℕ × ℕ). p.0) both in
    (s.0, there_ok (damage_at kind.InfoShort 0) (content_at contents 1) s.0 s.1, told_by_ok info_damage (stream_named s.0 (codes "/names")) n.0 n.1 ∙ ap Ok same)

-- records were read, and their hash stream stands apart
pub record Found (limits : Bounds) (contents : Contents) (space : Space) (others : List ℕ) (r : Records) : Type 0 where
  pub stream : List ℕ
  pub content : content_at contents (stream_of space) ≡ Some stream
  pub read : records.reading limits.records limits.bytes stream ≡ Ok r
  pub apart : is_apart contents others r.header.hash_stream ≡ true

pub found : (limits : Bounds) (contents : Contents) (space : Space) (others : List ℕ) (r : Records) → records_held limits contents space others ≡ Ok r → Found limits contents space others r
unfolding records_held
found limits contents space others r e =
    let s = bound_ok (there (absent_damage space) (content_at contents (stream_of space))) (λ s. told_by (record_damage space) (records.reading limits.records limits.bytes s)
    >>= λ (f : Records). with_hashes (is_apart contents others f.header.hash_stream) space f) r e in
    let f = bound_ok (told_by (record_damage space) (records.reading limits.records limits.bytes s.0)) (λ (f : Records). with_hashes (is_apart contents others f.header.hash_stream) space f) r s.2 in
    let h = hashes_ok (is_apart contents others f.0.header.hash_stream) space f.0 r f.2 in
    record {
      stream = s.0;
      content = there_ok (absent_damage space) (content_at contents (stream_of space)) s.0 s.1;
      read = told_by_ok (record_damage space) (records.reading limits.records limits.bytes s.0) f.0 f.1 ∙ ap Ok h.1;
      apart = subst (λ (x : Records). is_apart contents others x.header.hash_stream ≡ true) h.1 h.0;
    }

apart_ok : (may : Bool) (content : Option (List ℕ)) (x : List ℕ) → cond may content None ≡ Some x → may ≡ true
apart_ok true content x e = refl
apart_ok false content x e = absurd cc

pub names_apart : (limits : Bounds) (contents : Contents) (others : List ℕ) (i : ℕ) (table : Names) → names_held limits contents others i ≡ Ok table → is_apart contents others i ≡ true
unfolding names_held
names_apart limits contents others i table e =
    let s = bound_ok (there (damage_at kind.NamesStream i) (content_apart contents others i)) (λ s. told_by names_damage (names.reading limits.name_bytes s)) table e in
    apart_ok (is_apart contents others i) (content_at contents i) s.0 (there_ok (damage_at kind.NamesStream i) (content_apart contents others i) s.0 s.1)

-- a number that stands apart
apart_parts : (contents : Contents) (others : List ℕ) (i : ℕ) → is_apart contents others i ≡ true → (5 ≤ i) × (list_any (λ other. other == i) others ≡ false)
unfolding is_apart
apart_parts contents others i e =
    let there_and = not (is_none (content_at contents i)) && not (list_any (λ other. other == i) others) in
    let a = and_parts (leb 5 i) there_and e in
    let b = and_parts (not (is_none (content_at contents i))) (not (list_any (λ other. other == i) others)) a.1 in
    (leb-true 5 i a.0, not-true (list_any (λ other. other == i) others) b.1)

pub apart_there : (contents : Contents) (others : List ℕ) (i : ℕ) → is_apart contents others i ≡ true → (stream : List ℕ) × (content_at contents i ≡ Some stream)
unfolding is_apart
apart_there contents others i e =
    let a = and_parts (leb 5 i) (not (is_none (content_at contents i)) && not (list_any (λ other. other == i) others)) e in
    there (content_at contents i) (and_parts (not (is_none (content_at contents i))) (not (list_any (λ other. other == i) others)) a.1).0
  where
    there : (o : Option (List ℕ)) → not (is_none o) ≡ true → (stream : List ℕ) × (o ≡ Some stream)
    there None e = absurd cc
    there (Some stream) e = (stream, refl)

pub not_first : (a i : ℕ) (others : List ℕ) → list_any (λ other. other == i) (a ∷ others) ≡ false → (a ≢ i) × (list_any (λ other. other == i) others ≡ false)
not_first a i others e = go (eqb a i) refl e
  where
    go : (b : Bool) → eqb a i ≡ b → (b || list_any (λ other. other == i) others) ≡ false → (a ≢ i) × (list_any (λ other. other == i) others ≡ false)
    go true is e = absurd cc
    go false is e = (eqb-false a i is, e)

-- ---- what can be kept

pub can_keep : (limits : Bounds) (contents : Contents) (held : Held) → HaveBytes contents → holding limits contents ≡ Ok held → (info : List ℕ) × (content_at contents 1 ≡ Some info) × CanKeep (numbers_of held) info
can_keep limits contents held bytes e =
    let p = parts limits contents held e in
    let info = info_found contents held.names_stream held.age p.info in
    let types = found limits contents Types [] held.types p.types in
    let t = held.types.header.hash_stream in
    let items = found limits contents Items (t ∷ []) held.items p.items in
    let s = held.items.header.hash_stream in
    let type_apart = apart_parts contents [] t types.apart in
    let item_apart = apart_parts contents (t ∷ []) s items.apart in
    let name_apart = apart_parts contents (t ∷ s ∷ []) held.names_stream (names_apart limits contents (t ∷ s ∷ []) held.names_stream held.names p.names) in
    let no_types = not_first t held.names_stream (s ∷ []) name_apart.1 in
    let can : CanKeep (numbers_of held) info.0 = record {
      types = (read_can limits.records limits.bytes types.stream held.types (bytes 2 types.stream types.content) types.read).0;
      items = (read_can limits.records limits.bytes items.stream held.items (bytes 4 items.stream items.content) items.read).0;
      names = info.2;
      type_hashes = type_apart.0;
      item_hashes = item_apart.0;
      names_stream = name_apart.0;
      two_hashes = (not_first t s [] item_apart.1).0;
      names_no_types = no_types.0;
      names_no_items = (not_first s held.names_stream [] no_types.1).0;
    } in
    (info.0, info.1, can)
