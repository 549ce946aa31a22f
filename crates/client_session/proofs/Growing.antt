-- Tables go on from those that a request left.
use Rattle.std.proofs.Common.{◌≡◌, ◌++◌, ◌∷◌, ℕ, Bool, true, false, List, [], Result, inl, inr, if◌then◌else◌, refl, sym, ap, subst, ◌∙◌, append_assoc}
use Rattle.std.proofs.lemmas.List.{append-nil}
use Rattle.leaf_grammar.specs.declared.grammar.Space.{Space}
use Rattle.leaf_grammar.specs.declared.grammar.Space.TheVariants.{Types, Items}
use Rattle.srv_edge.specs.declared.failed.Refusal.{Refusal}
use Rattle.srv_edge.specs.Frames.{Message}
use Rattle.record_table.specs.Table as records
use Rattle.names_table.specs.Names as strings
use Rattle.request_frames.specs.Requests.{Asked}
use Rattle.table_model.specs.Bounds.{Bounds}
use Rattle.table_model.specs.Calls.{tables_after}
use Rattle.table_model.specs.Extends.{StartsWith}
use Rattle.table_model.specs.Tables.{comes_to_table, item_count, type_count}
use Rattle.table_model.specs.declared.call.Call.{Call}
use Rattle.table_model.specs.declared.call.Call.TheVariants.{AddType, AddItem, AddName, GetType, GetItem, GetName, Counts}
use Rattle.type_store.specs.Committed.{GoesOn}
use Rattle.type_store.specs.Files.{HasBounds}
use Rattle.client_session.specs.Tables.{Adds, AddsEach, AnswersByTables, AnswersCall, AnswersCalls, Calls, none, one, each, of_file, Tables, call_to_add, calls_of, greeting, reply_kind}

starts_self : (xs : List (List ℕ)) → StartsWith xs xs
starts_self xs = ([], sym (append-nil xs))

starts_on : (xs ys zs : List (List ℕ)) → StartsWith xs ys → StartsWith ys zs → StartsWith xs zs
starts_on xs ys zs p q = (p.0 ++ q.0, q.1 ∙ ap (λ z. z ++ q.0) p.1 ∙ append_assoc xs p.0 q.0)

-- a table of records with the same limits, that begins as another
record RecordsGrow (old new : records.Table) : Type 0 where
  starts : StartsWith old.records new.records
  max_records : new.max_records ≡ old.max_records
  max_bytes : new.max_bytes ≡ old.max_bytes

record NamesGrow (old new : strings.Names) : Type 0 where
  starts : StartsWith old.names new.names
  max_bytes : new.max_bytes ≡ old.max_bytes
  version : new.version ≡ old.version

-- tables with the same limits, that begin as others
pub record Grow (old new : Tables) : Type 0 where
  types : RecordsGrow old.types new.types
  items : RecordsGrow old.items new.items
  names : NamesGrow old.names new.names

records_stay : (t : records.Table) → RecordsGrow t t
records_stay t = record { starts = starts_self t.records; max_records = refl; max_bytes = refl }

names_stay : (t : strings.Names) → NamesGrow t t
names_stay t = record { starts = starts_self t.names; max_bytes = refl; version = refl }

stay : (x : Tables) → Grow x x
stay x = record { types = records_stay x.types; items = records_stay x.items; names = names_stay x.names }

grow_on : (x y z : Tables) → Grow x y → Grow y z → Grow x z
grow_on x y z p q = record {
  types = record {
    starts = starts_on x.types.records y.types.records z.types.records p.types.starts q.types.starts;
    max_records = q.types.max_records ∙ p.types.max_records;
    max_bytes = q.types.max_bytes ∙ p.types.max_bytes;
  };
  items = record {
    starts = starts_on x.items.records y.items.records z.items.records p.items.starts q.items.starts;
    max_records = q.items.max_records ∙ p.items.max_records;
    max_bytes = q.items.max_bytes ∙ p.items.max_bytes;
  };
  names = record {
    starts = starts_on x.names.names y.names.names z.names.names p.names.starts q.names.starts;
    max_bytes = q.names.max_bytes ∙ p.names.max_bytes;
    version = q.names.version ∙ p.names.version;
  };
}

-- one of two tables
either_records : (b : Bool) (t u : records.Table) → RecordsGrow t u → RecordsGrow t (if b then u else t)
either_records true t u grow = grow
either_records false t u grow = records_stay t

either_names : (b : Bool) (t u : strings.Names) → NamesGrow t u → NamesGrow t (if b then u else t)
either_names true t u grow = grow
either_names false t u grow = names_stay t

records_add : (t : records.Table) (r : List ℕ) → RecordsGrow t (records.after_add t r)
records_add t r = either_records (records.appends t r) t (records.appended t r) (record { starts = (r ∷ [], refl); max_records = refl; max_bytes = refl })

-- the tables that a call leaves
call_grows : (x : Tables) (c : Call) → Grow x (tables_after x c)
call_grows x (AddType r) = record {
  types = either_records (comes_to_table Types (type_count x) (item_count x) r) x.types (records.after_add x.types r) (records_add x.types r);
  items = records_stay x.items;
  names = names_stay x.names;
}
call_grows x (AddItem r) = record {
  types = records_stay x.types;
  items = either_records (comes_to_table Items (type_count x) (item_count x) r) x.items (records.after_add x.items r) (records_add x.items r);
  names = names_stay x.names;
}
call_grows x (AddName name) = record {
  types = records_stay x.types;
  items = records_stay x.items;
  names = either_names (strings.appends x.names name) x.names (record x.names { names = x.names.names ++ name ∷ [] }) (record { starts = (name ∷ [], refl); max_bytes = refl; version = refl });
}
call_grows x (GetType index) = stay x
call_grows x (GetItem index) = stay x
call_grows x (GetName offset) = stay x
call_grows x Counts = stay x

-- where a call is answered, or wants memory
answered_grows : (kind : ℕ) (x : Tables) (c : Call) (reply : Message) (y : Tables) → AnswersCall kind x c reply y → Grow x y
answered_grows kind x c reply y (inl answered) = subst (λ z. Grow x z) (sym answered.1) (call_grows x c)
answered_grows kind x c reply y (inr wants) = subst (λ z. Grow x z) (sym wants.2) (stay x)

added_grows : (space : Space) (x : Tables) (r : List ℕ) (answered : Result ℕ Refusal) (y : Tables) → Adds space x r answered y → Grow x y
added_grows space x r answered y (inl added) = subst (λ z. Grow x z) (sym added.1) (call_grows x (call_to_add space r))
added_grows space x r answered y (inr wants) = subst (λ z. Grow x z) (sym wants.2) (stay x)

each_grows : (space : Space) (x : Tables) (records : List (List ℕ)) (parts : List ℕ) (y : Tables) → AddsEach space x records parts y → Grow x y
each_grows space x [] parts y added = subst (λ z. Grow x z) (sym added.1) (stay x)
each_grows space x (r ∷ records) parts y added =
    grow_on x added.2 y (added_grows space x r added.0 added.2 added.4) (each_grows space added.2 records added.1 y added.5)

calls_grow : (calls : Calls) (kind : ℕ) (body : List ℕ) (x : Tables) (reply : Message) (y : Tables) → AnswersCalls calls kind body x reply y → Grow x y
calls_grow none kind body x reply y answered = subst (λ z. Grow x z) (sym answered.1) (stay x)
calls_grow (one c) kind body x reply y answered = answered_grows kind x c reply y answered
calls_grow (each space list) kind body x reply y answered = each_grows space x answered.2.0 answered.0 y answered.2.2
calls_grow of_file kind body x reply y answered = absurd answered

pub answered_grow : (x : Tables) (a : Asked) (reply : Message) (y : Tables) → AnswersByTables x a reply y → Grow x y
answered_grow x a reply y answered = calls_grow (calls_of a) (reply_kind a) (greeting a) x reply y answered

-- a file may go on with tables that grew
pub goes_on : (base x y : Tables) → GoesOn base x → Grow x y → GoesOn base y
goes_on base x y on grow = record {
  extends = record {
    types = starts_on base.types.records x.types.records y.types.records on.extends.types grow.types.starts;
    items = starts_on base.items.records x.items.records y.items.records on.extends.items grow.items.starts;
    names = starts_on base.names.names x.names.names y.names.names on.extends.names grow.names.starts;
  };
  version = grow.names.version ∙ on.version;
}

-- and they keep its bounds
pub keeps_bounds : (bounds : Bounds) (x y : Tables) → HasBounds bounds x → Grow x y → HasBounds bounds y
keeps_bounds bounds x y has grow = record {
  type_records = grow.types.max_records ∙ has.type_records;
  type_bytes = grow.types.max_bytes ∙ has.type_bytes;
  item_records = grow.items.max_records ∙ has.item_records;
  item_bytes = grow.items.max_bytes ∙ has.item_bytes;
  names = grow.names.max_bytes ∙ has.names;
}
