-- The streams of a file in the order of their tests.
use Rattle.std.proofs.Common.{◌≡◌, ◌≤◌, ℕ, List, [], ◌∷◌, Option, None, Some, Result, Ok, Err, IfErr, refl, sym, ap, subst, ◌∙◌}
use Rattle.std.specs.Option.{IfSome}
use Rattle.srv_edge.specs.declared.device.Device.{Ghosts}
use Rattle.srv_edge.specs.Reading.{OnlyReads}
use Rattle.leaf_grammar.specs.declared.grammar.Space.TheVariants.{Types, Items}
use Rattle.msf_blocks.specs.Judging.{◌>>=◌}
use Rattle.msf_image.specs.declared.fault.Damage.{Damage}
use Rattle.msf_image.specs.declared.fault.OpenFault.{OpenFault}
use Rattle.msf_image.specs.declared.image.Image.{Image}
use Rattle.msf_image.specs.Faults.{damage_in}
use Rattle.msf_image.proofs.Moments.{only_reads_on}
use Rattle.tpi_stream.specs.declared.reading.Records.{Records}
use Rattle.names_table.specs.Names.{Names}
use Rattle.committer.specs.Stored.{File, Stored, newest}
use Rattle.table_model.specs.Bounds.{Bounds}
use Rattle.table_model.specs.Tables.{Tables}
use Rattle.record_table.specs.Table.{Table}
use Rattle.tpi_stream.specs.declared.header.Kept.{Kept}
use Rattle.type_store.specs.Written.{KeptNumbers}
use Rattle.type_store.specs.Commits.{contents_of}
use Rattle.type_store.specs.Holds.{Contents, Held, holding, info_in, names_held, records_held}
use Rattle.type_store.specs.Opening.{OnlyReadsStore}

abbrev pub numbers_kept : Kept → Kept → ℕ → KeptNumbers
numbers_kept types items names_stream = record { types = types; items = items; names_stream = names_stream }

abbrev pub tables_with : Table → Table → Names → Tables
tables_with types items names = record { types = types; items = items; names = names }

-- ---- the store between two reads

pub reads_on : {D : Type 0} (device : Ghosts D) → ((d : D) (t : ℕ) (c : List ℕ) → t ≤ device.moment d → device.may_leave d c → device.left_since d t c) → (old mid new : Stored D)
    → OnlyReadsStore device old mid → OnlyReadsStore device mid new → OnlyReadsStore device old new
reads_on device counts old mid new one two = record {
  file = two.file ∙ one.file;
  limit = two.limit ∙ one.limit;
  device_reads = only_reads_on device counts old.device mid.device new.device one.device_reads two.device_reads;
}

-- the contents that are read next are those from before
pub same_contents : {D : Type 0} (device : Ghosts D) (old new : Stored D) → OnlyReadsStore device old new → contents_of (device.seen new.device) (newest new.file) ≡ contents_of (device.seen old.device) (newest old.file)
same_contents device old new is =
    ap (λ seen. contents_of seen (newest new.file)) is.device_reads.seen ∙ ap (λ (file : File). contents_of (device.seen old.device) (newest file)) is.file

-- ---- the first damage

pub no_types : (bounds : Bounds) (contents one : Contents) (info : ℕ × ℕ) (damage : Damage) → one ≡ contents → info_in contents ≡ Ok info → records_held bounds one Types [] ≡ Err damage → holding bounds contents ≡ Err damage
unfolding holding
no_types bounds contents one info damage same i t =
    let types : records_held bounds contents Types [] ≡ Err damage = ap (λ c. records_held bounds c Types []) (sym same) ∙ t in rw (i, types) refl

pub no_items : (bounds : Bounds) (contents one two : Contents) (info : ℕ × ℕ) (types : Records) (first : ℕ) (damage : Damage) → one ≡ contents → two ≡ contents → first ≡ types.header.hash_stream → info_in contents ≡ Ok info
    → records_held bounds one Types [] ≡ Ok types → records_held bounds two Items (first ∷ []) ≡ Err damage → holding bounds contents ≡ Err damage
unfolding holding
no_items bounds contents one two info types first damage same then f i t s =
    let read : records_held bounds contents Types [] ≡ Ok types = ap (λ c. records_held bounds c Types []) (sym same) ∙ t in
    let items : records_held bounds contents Items (types.header.hash_stream ∷ []) ≡ Err damage = ap (λ c. records_held bounds c Items (types.header.hash_stream ∷ [])) (sym then) ∙ ap (λ n. records_held bounds two Items (n ∷ [])) (sym f) ∙ s in
    rw (i, read, items) refl

module _ (bounds : Bounds) (contents one two three : Contents) (info : ℕ × ℕ) (types items : Records) (first second : ℕ) (same : one ≡ contents) (then : two ≡ contents) (last : three ≡ contents)
    (f : first ≡ types.header.hash_stream) (g : second ≡ items.header.hash_stream) (i : info_in contents ≡ Ok info) (t : records_held bounds one Types [] ≡ Ok types) (s : records_held bounds two Items (first ∷ []) ≡ Ok items) where
  types_read : records_held bounds contents Types [] ≡ Ok types
  types_read = ap (λ c. records_held bounds c Types []) (sym same) ∙ t

  items_read : records_held bounds contents Items (types.header.hash_stream ∷ []) ≡ Ok items
  items_read = ap (λ c. records_held bounds c Items (types.header.hash_stream ∷ [])) (sym then) ∙ ap (λ n. records_held bounds two Items (n ∷ [])) (sym f) ∙ s

  names_on : names_held bounds contents (types.header.hash_stream ∷ items.header.hash_stream ∷ []) info.0 ≡ names_held bounds three (first ∷ second ∷ []) info.0
  names_on = ap (λ c. names_held bounds c (types.header.hash_stream ∷ items.header.hash_stream ∷ []) info.0) (sym last)
      ∙ ap (λ n. names_held bounds three (n ∷ items.header.hash_stream ∷ []) info.0) (sym f) ∙ ap (λ n. names_held bounds three (first ∷ n ∷ []) info.0) (sym g)

  pub no_names : (damage : Damage) → names_held bounds three (first ∷ second ∷ []) info.0 ≡ Err damage → holding bounds contents ≡ Err damage
  unfolding holding
  no_names damage n = let read = names_on ∙ n in rw (i, types_read, items_read, read) refl

  pub all_held : (names : Names) → names_held bounds three (first ∷ second ∷ []) info.0 ≡ Ok names → holding bounds contents ≡ Ok (record { age = info.1; types = types; items = items; names_stream = info.0; names = names })
  unfolding holding
  all_held names n = let read = names_on ∙ n in rw (i, types_read, items_read, read) refl

-- a fault that is handed on
pub handed : {X : Type 0} (result : Result X OpenFault) (fault : OpenFault) (P : Damage → Type 0) → result ≡ Err fault → IfSome (damage_in fault) P → IfErr result (λ e. IfSome (damage_in e) P)
handed {X} result fault P is told = subst (λ (r : Result X OpenFault). IfErr r (λ e. IfSome (damage_in e) P)) (sym is) told

-- the same of a damage of other contents
pub told_on : (fault : OpenFault) (P Q : Damage → Type 0) → ((d : Damage) → P d → Q d) → IfSome (damage_in fault) P → IfSome (damage_in fault) Q
told_on fault P Q each = on (damage_in fault)
  where
    on : (o : Option Damage) → IfSome o P → IfSome o Q
    on None p = tt
    on (Some d) p = each d p

pub kept_same : {types items : Kept} {a b : Kept} (names_stream : ℕ) → a ≡ types → b ≡ items
    → numbers_kept types items names_stream ≡ numbers_kept a b names_stream
kept_same {types} {items} {a} {b} names_stream t s = ap (λ k. numbers_kept k items names_stream) (sym t) ∙ ap (λ k. numbers_kept a k names_stream) (sym s)

pub tables_same : {types items : Table} {a b : Table} (names : Names) → types ≡ a → items ≡ b → tables_with a b names ≡ tables_with types items names
tables_same {types} {items} {a} {b} names t s = ap (λ x. tables_with x b names) (sym t) ∙ ap (λ x. tables_with types x names) (sym s)
