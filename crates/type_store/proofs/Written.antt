-- Contents that are written for tables hold these tables.
use Rattle.std.proofs.Common.{◌≡◌, ◌≢◌, ◌≤◌, ◌<◌, ◌^◌, ◌==◌, ◌&&◌, ℕ, true, false, not, cond, List, [], ◌∷◌, None, Some, unwrap_or, Ok, length, codes, is_none, refl, sym, ap, ◌∙◌, arith, le-leb, leb}
use Rattle.std.specs.List.{AllByRecursion, list_any}
use Rattle.std.proofs.lemmas.Bool.{and_from, ne_eqb}
use Rattle.std.proofs.lemmas.List.Elements.{recursion_from_All}
use Rattle.msf_blocks.specs.Judging.{◌>>=◌, told_by}
use Rattle.table_model.specs.Bounds.{Bounds, bounded_table}
use Rattle.leaf_grammar.specs.declared.grammar.Space.{Space}
use Rattle.leaf_grammar.specs.declared.grammar.Space.TheVariants.{Types, Items}
use Rattle.msf_image.specs.declared.fault.DamageKind.TheVariants as kind
use Rattle.info_stream.specs.Named.{age_in, stream_named}
use Rattle.info_stream.specs.Text.{with_age}
use Rattle.info_stream.proofs.Ages.{age_in-with_age, named-with_age}
use Rattle.tpi_stream.specs.declared.header.Kept.{Kept}
use Rattle.tpi_stream.specs.declared.reading.Records.{Records}
use Rattle.tpi_stream.specs.Hashes.{hash_text}
use Rattle.tpi_stream.specs.Reading as records
use Rattle.tpi_stream.specs.Stream as stream
use Rattle.tpi_stream.specs.Written.{AreRecords, CanBeKept, record_stream_text, written_header}
use Rattle.tpi_stream.proofs.WrittenStreams.{written_read}
use Rattle.record_table.specs.Table.{IsKept, IsRecord, Table}
use Rattle.names_table.specs.Names.{IsNamesTable, Names}
use Rattle.names_table.specs.Reading as names
use Rattle.names_table.specs.Text.{names_text}
use Rattle.table_model.specs.Tables.{Tables}
use Rattle.type_store.specs.Faults.{absent_damage, damage_at, info_damage, names_damage, record_damage}
use Rattle.type_store.specs.Holds.{Contents, content_apart, content_at, holding, info_in, is_apart, names_held, records_held, stream_of, tables_of, there, with_hashes}
use Rattle.type_store.proofs.Named.{named_long}
use Rattle.type_store.specs.Written.{AreWithin, CanKeep, IsWritten, KeptNumbers, written_held}

-- ---- the PDB stream

pub info_written : (contents : Contents) (info : List ℕ) (age number : ℕ) → content_at contents 1 ≡ Some (with_age info age) → 28 ≤ length info → age < 2 ^ 32
    → stream_named info (codes "/names") ≡ Ok number → info_in contents ≡ Ok (number, age)
unfolding info_in
info_written contents info age number is long small named =
    let new = with_age info age in
    ap (λ c. there (damage_at kind.InfoShort 0) c >>= λ s. told_by info_damage (stream_named s (codes "/names")) >>= λ n. Ok (n, unwrap_or (age_in s) 0)) is
    ∙ ap (λ r. told_by info_damage r >>= λ n. Ok (n, unwrap_or (age_in new) 0)) (named-with_age info (codes "/names") age long ∙ named)
    ∙ ap (λ a. Ok (number, unwrap_or a 0)) (age_in-with_age info age long small)

-- ---- streams beside others

apart : (contents : Contents) (others : List ℕ) (i : ℕ) (bytes : List ℕ) → 5 ≤ i → content_at contents i ≡ Some bytes → list_any (λ other. other == i) others ≡ false → is_apart contents others i ≡ true
unfolding is_apart
apart contents others i bytes le is none =
    and_from (leb 5 i) (not (is_none (content_at contents i)) && not (list_any (λ other. other == i) others)) (le-leb 5 i le)
    (and_from (not (is_none (content_at contents i))) (not (list_any (λ other. other == i) others)) (ap (λ c. not (is_none c)) is) (ap not none))

none_of_one : (a i : ℕ) → a ≢ i → list_any (λ other. other == i) (a ∷ []) ≡ false
none_of_one a i ne = rw (ne_eqb a i ne) refl

none_of_two : (a b i : ℕ) → a ≢ i → b ≢ i → list_any (λ other. other == i) (a ∷ b ∷ []) ≡ false
none_of_two a b i ne_a ne_b = rw (ne_eqb a i ne_a, ne_eqb b i ne_b) refl

-- ---- records

-- the records of a table are those of a stream
are_records : (records : List (List ℕ)) → AllByRecursion IsRecord records → AllByRecursion stream.IsRecord records
are_records [] all = all
are_records (r ∷ records) all = (record { least = all.0.shortest; size = all.0.says }, are_records records all.1)

pub table_written : (limits : Bounds) (table : Table) (kept : Kept) → IsKept table → table ≡ bounded_table limits table.records → CanBeKept kept
    → records.reading limits.records limits.bytes (record_stream_text kept table.records) ≡ Ok (record { header = written_header kept table.records; list = table.records })
table_written limits table kept is within can =
    let most_records : table.max_records ≡ limits.records = ap (λ (t : Table). t.max_records) within in
    let most_bytes : table.max_bytes ≡ limits.bytes = ap (λ (t : Table). t.max_bytes) within in
    let all = are_records table.records (recursion_from_All IsRecord table.records is.all) in
    let are : AreRecords limits.records limits.bytes table.records = record { all = all; few = omega (arith, is.within.few, most_records); short = omega (arith, is.within.short, most_bytes) } in
    written_read limits.records limits.bytes kept table.records (omega (arith, is.most_records, most_records)) (omega (arith, is.most_bytes, most_bytes)) can are

pub records_written : (limits : Bounds) (contents : Contents) (space : Space) (others : List ℕ) (table : Table) (kept : Kept) → IsKept table → table ≡ bounded_table limits table.records → CanBeKept kept
    → content_at contents (stream_of space) ≡ Some (record_stream_text kept table.records) → is_apart contents others kept.hash_stream ≡ true
    → records_held limits contents space others ≡ Ok (record { header = written_header kept table.records; list = table.records })
unfolding records_held
records_written limits contents space others table kept is within can content apart =
    let text = record_stream_text kept table.records in
    let made : Records = record { header = written_header kept table.records; list = table.records } in
    ap (λ c. there (absent_damage space) c >>= λ s. told_by (record_damage space) (records.reading limits.records limits.bytes s) >>= λ (found : Records). with_hashes (is_apart contents others found.header.hash_stream) space found) content
    ∙ ap (λ r. told_by (record_damage space) r >>= λ (found : Records). with_hashes (is_apart contents others found.header.hash_stream) space found) (table_written limits table kept is within can)
    ∙ ap (λ b. with_hashes b space made) apart

-- ---- names

-- the text of each table of names is read as this table
abbrev pub NamesAreRead : Type 0
NamesAreRead = (table : Names) → IsNamesTable table → names.reading table.max_bytes (names_text table.version table.names) ≡ Ok table

pub names_written : NamesAreRead → (limits : Bounds) (contents : Contents) (others : List ℕ) (i : ℕ) (table : Names) → IsNamesTable table → table.max_bytes ≡ limits.name_bytes
    → content_at contents i ≡ Some (names_text table.version table.names) → is_apart contents others i ≡ true → names_held limits contents others i ≡ Ok table
unfolding names_held
names_written text_read limits contents others i table is limit content apart =
    let text = names_text table.version table.names in
    let found : content_apart contents others i ≡ Some text = ap (λ b. cond b (content_at contents i) None) apart ∙ content in
    let read : names.reading limits.name_bytes text ≡ Ok table = ap (λ n. names.reading n text) (sym limit) ∙ text_read table is in
    ap (λ c. there (damage_at kind.NamesStream i) c >>= λ s. told_by names_damage (names.reading limits.name_bytes s)) found ∙ ap (told_by names_damage) read

-- ---- the whole

-- what is held, by its parts
pub parts_held : (limits : Bounds) (contents : Contents) (age number : ℕ) (types items : Records) (table : Names) → info_in contents ≡ Ok (number, age) → records_held limits contents Types [] ≡ Ok types
    → records_held limits contents Items (types.header.hash_stream ∷ []) ≡ Ok items → names_held limits contents (types.header.hash_stream ∷ items.header.hash_stream ∷ []) number ≡ Ok table
    → holding limits contents ≡ Ok (record { age = age; types = types; items = items; names_stream = number; names = table })
unfolding holding
parts_held limits contents age number types items table info is_types is_items is_names = rw (info, is_types, is_items, is_names) refl

pub tables_written : NamesAreRead → (limits : Bounds) (kept : KeptNumbers) (info : List ℕ) (age : ℕ) (tables : Tables) (contents : Contents) → CanKeep kept info → AreWithin limits tables → age < 2 ^ 32
    → IsWritten kept info age tables contents → holding limits contents ≡ Ok (written_held kept age tables)
tables_written text_read limits kept info age tables contents can within small is =
    let types = kept.types.hash_stream in
    let items = kept.items.hash_stream in
    let long = named_long info (codes "/names") kept.names_stream can.names in
    let types_apart = apart contents [] types (hash_text tables.types.records kept.types.buckets) can.type_hashes is.type_hashes refl in
    let items_apart = apart contents (types ∷ []) items (hash_text tables.items.records kept.items.buckets) can.item_hashes is.item_hashes (none_of_one types items can.two_hashes) in
    let names_apart = apart contents (types ∷ items ∷ []) kept.names_stream (names_text tables.names.version tables.names.names) can.names_stream is.names (none_of_two types items kept.names_stream can.names_no_types can.names_no_items) in
    parts_held limits contents age kept.names_stream (written_held kept age tables).types (written_held kept age tables).items tables.names
    (info_written contents info age kept.names_stream is.info_stream long small can.names)
    (records_written limits contents Types [] tables.types kept.types within.types within.type_limits can.types is.types types_apart)
    (records_written limits contents Items (types ∷ []) tables.items kept.items within.items within.item_limits can.items is.items items_apart)
    (names_written text_read limits contents (types ∷ items ∷ []) kept.names_stream tables.names within.names within.name_limit is.names names_apart)

pub written_tables : (limits : Bounds) (kept : KeptNumbers) (age : ℕ) (tables : Tables) → AreWithin limits tables → tables_of limits (written_held kept age tables) ≡ tables
written_tables limits kept age tables within = λ i. record { types = sym within.type_limits i; items = sym within.item_limits i; names = tables.names }
