-- Answered adds: what a word shows of one is what the code tests.
use Rattle.std.proofs.Common.{◌≡◌, ◌≤◌, ◌==◌, ℕ, Bool, true, false, cond, eq-eqb, ne_eqb, List, [], ◌∷◌, ◌++◌, length, take, Option, Some, None, refl, sym, ap, subst, ◌∙◌, arith, zero-add}
use Rattle.std.specs.Option.{unwrap_or}
use Rattle.record_table.specs.Table as records
use Rattle.record_table.specs.Table.{index_at, place_of}
use Rattle.names_table.specs.Names.{bytes_of}
use Rattle.call_journal.specs.declared.deed.TableKind.{TableKind}
use Rattle.call_journal.specs.declared.deed.TableKind.TheVariants.{Types, Items, Names}
use Rattle.core_model.specs.declared.state.ReplayState.{ReplayState}
use Rattle.table_model.specs.Tables.{Tables, item_count, type_count}
use Rattle.core_model.specs.Cuts.{StartsWith}
use Rattle.core_model.specs.History.{with_added}
use Rattle.core_model.specs.Replay.{AreBeginnings, Lists, first_or_next, lists_of}
use Rattle.core_model.specs.Steps.{state_after_add, count_with, place_fits, place_of_index, place_of_offset}
use Rattle.table_model.proofs.Counting.{place_of-within, some-bytes}
use Rattle.core_model.proofs.Placing.{IsNameAt, Placed, begun_before, equal, fits_placed, index_at-place, index_of-place, name_at_offset, offset_of-place, place_for, place_of_index-at, place_of_offset-at, placed, placed_count, placed_fits, same_index_test, same_offset_test, take-begun, with_at}
use Rattle.table_model.proofs.Searching.{found_there}
use Rattle.table_model.proofs.Strings as string_lemmas

-- the code has counted these lists
pub record Counts (p : ReplayState) (lists : Lists) : Type 0 where
  pub types : p.types ≡ length lists.types
  pub items : p.items ≡ length lists.items
  pub names : p.names ≡ length lists.names

-- the lists behind an add
lists_types : (x : Tables) (at : ℕ) (r : List ℕ) (k : ℕ) → at ≡ index_at k → lists_of (with_added x Types at r) ≡ record (lists_of x) { types = with_at x.types.records k r }
lists_types x at r k e =
    go (at == index_at (type_count x)) ∙ ap (λ b. record (lists_of x) { types = cond b (x.types.records ++ r ∷ []) x.types.records }) (same_index_test k (type_count x) at e) where
      go : (b : Bool) → lists_of (cond b (record x { types = records.appended x.types r }) x) ≡ record (lists_of x) { types = cond b (x.types.records ++ r ∷ []) x.types.records }
      go true = refl
      go false = refl

lists_items : (x : Tables) (at : ℕ) (r : List ℕ) (k : ℕ) → at ≡ index_at k → lists_of (with_added x Items at r) ≡ record (lists_of x) { items = with_at x.items.records k r }
lists_items x at r k e =
    go (at == index_at (item_count x)) ∙ ap (λ b. record (lists_of x) { items = cond b (x.items.records ++ r ∷ []) x.items.records }) (same_index_test k (item_count x) at e) where
      go : (b : Bool) → lists_of (cond b (record x { items = records.appended x.items r }) x) ≡ record (lists_of x) { items = cond b (x.items.records ++ r ∷ []) x.items.records }
      go true = refl
      go false = refl

with_name-lists : (x : Tables) (at : ℕ) (name : List ℕ) → lists_of (with_added x Names at name) ≡ record (lists_of x) { names = cond (at == bytes_of x.names.names) (x.names.names ++ name ∷ []) x.names.names }
with_name-lists x at name = go (at == bytes_of x.names.names) where
  go : (b : Bool) → lists_of (cond b (record x { names = string_lemmas.with_name x.names name }) x) ≡ record (lists_of x) { names = cond b (x.names.names ++ name ∷ []) x.names.names }
  go true = refl
  go false = refl

lists_names : (x : Tables) (at : ℕ) (name : List ℕ) (k : ℕ) → k ≤ length x.names.names → at ≡ bytes_of (take k x.names.names) → lists_of (with_added x Names at name) ≡ record (lists_of x) { names = with_at x.names.names k name }
lists_names x at name k within e =
    with_name-lists x at name ∙ ap (λ b. record (lists_of x) { names = cond b (x.names.names ++ name ∷ []) x.names.names }) (same_offset_test x.names.names k at within e)

-- the empty name changes nothing
lists_empty_name : (x : Tables) (at : ℕ) → at ≡ 0 → lists_of (with_added x Names at []) ≡ lists_of x
lists_empty_name x at e =
    with_name-lists x at [] ∙ ap (λ b. record (lists_of x) { names = cond b (x.names.names ++ [] ∷ []) x.names.names }) (ne_eqb at (bytes_of x.names.names) (λ s. omega (arith, e, s, some-bytes x.names.names)))

-- What a word shows is what the code lets pass.

-- an add fits, and the code has counted the lists behind it
pub record AddStep (lists : Lists) (x : Tables) (p : ReplayState) (table : TableKind) (at : ℕ) (bytes : List ℕ) : Type 0 where
  pub types : ℕ
  pub items : ℕ
  pub names : ℕ
  pub fits : state_after_add lists p table at ≡ Some (record p { types = types; items = items; names = names })
  pub counts : Counts (record p { types = types; items = items; names = names }) (lists_of (with_added x table at bytes))

place_passes : (list final : List (List ℕ)) (r : List ℕ) (k count : ℕ) (place : Option ℕ) (to : ℕ → ReplayState) → count ≡ length list → place ≡ Some k → Placed list final r k
    → cond (place_fits final count place) (Some (to (count_with count place))) None ≡ Some (to (length (with_at list k r)))
place_passes list final r k count place to same e f =
    ap (λ o. cond (place_fits final count o) (Some (to (count_with count o))) None) e
    ∙ ap (λ b. cond b (Some (to (count_with count (Some k)))) None) (placed_fits list final r k count same f)
    ∙ ap (λ n. Some (to (count_with n (Some k)))) same ∙ ap (λ n. Some (to n)) (placed_count list r k)

add_type : (lists : Lists) (x : Tables) (p : ReplayState) (at : ℕ) (r : List ℕ) → at ≡ first_or_next x Types r → Counts p (lists_of x) → AreBeginnings (lists_of (with_added x Types at r)) lists → AddStep lists x p Types at r
add_type lists x p at r shows c reached =
    let list = x.types.records in
    let k = place_for list r in
    let is : at ≡ index_at k = shows ∙ index_of-place list r in
    let e = lists_types x at r k is in
    let f = placed list lists.types r k refl (subst (λ (z : Lists). StartsWith z.types lists.types) e reached.types) in
    record {
      types = length (with_at list k r);
      items = p.items;
      names = p.names;
      fits = place_passes list lists.types r k p.types (place_of_index at) (λ n. record p { types = n }) c.types (ap place_of_index is ∙ place_of_index-at k) f;
      counts = subst (Counts (record p { types = length (with_at list k r) })) (sym e) (record { types = refl; items = c.items; names = c.names });
    }

add_item : (lists : Lists) (x : Tables) (p : ReplayState) (at : ℕ) (r : List ℕ) → at ≡ first_or_next x Items r → Counts p (lists_of x) → AreBeginnings (lists_of (with_added x Items at r)) lists → AddStep lists x p Items at r
add_item lists x p at r shows c reached =
    let list = x.items.records in
    let k = place_for list r in
    let is : at ≡ index_at k = shows ∙ index_of-place list r in
    let e = lists_items x at r k is in
    let f = placed list lists.items r k refl (subst (λ (z : Lists). StartsWith z.items lists.items) e reached.items) in
    record {
      types = p.types;
      items = length (with_at list k r);
      names = p.names;
      fits = place_passes list lists.items r k p.items (place_of_index at) (λ n. record p { items = n }) c.items (ap place_of_index is ∙ place_of_index-at k) f;
      counts = subst (Counts (record p { items = length (with_at list k r) })) (sym e) (record { types = c.types; items = refl; names = c.names });
    }

-- an add of a name, by whether its offset is 0
abbrev by_name : Lists → ReplayState → ℕ → Bool → Option ReplayState
by_name lists p at b =
    cond b (Some p) (cond (place_fits lists.names p.names (place_of_offset 1 lists.names at)) (Some (record p { names = count_with p.names (place_of_offset 1 lists.names at) })) None)

add_empty_name : (lists : Lists) (x : Tables) (p : ReplayState) (at : ℕ) → at ≡ first_or_next x Names [] → Counts p (lists_of x) → AddStep lists x p Names at []
add_empty_name lists x p at shows c = record {
  types = p.types;
  items = p.items;
  names = p.names;
  fits = ap (by_name lists p at) (eq-eqb at 0 shows);
  counts = subst (Counts p) (sym (lists_empty_name x at shows)) c;
}

place_within : (list : List (List ℕ)) (r : List ℕ) → place_for list r ≤ length list
place_within list r = go (place_of list r) refl where
  go : (o : Option ℕ) → place_of list r ≡ o → unwrap_or o (length list) ≤ length list
  go None e = omega arith
  go (Some q) e = omega (arith, place_of-within list r q e)

add_some_name : (lists : Lists) (x : Tables) (p : ReplayState) (at : ℕ) (b : ℕ) (bs : List ℕ) → at ≡ first_or_next x Names (b ∷ bs) → Counts p (lists_of x) → AreBeginnings (lists_of (with_added x Names at (b ∷ bs))) lists
    → AddStep lists x p Names at (b ∷ bs)
add_some_name lists x p at b bs shows c reached =
    let list = x.names.names in
    let name : List ℕ = b ∷ bs in
    let k = place_for list name in
    let is : at ≡ bytes_of (take k list) = shows ∙ offset_of-place list name in
    let e = lists_names x at name k (place_within list name) is in
    let starts : StartsWith (with_at list k name) lists.names = subst (λ (z : Lists). StartsWith z.names lists.names) e reached.names in
    let f = placed list lists.names name k refl starts in
    let begun : take k lists.names ≡ take k list = take-begun list lists.names k (begun_before list lists.names name k starts) f.within in
    let place : place_of_offset 1 lists.names at ≡ Some k =
    ap (place_of_offset 1 lists.names) (is ∙ ap bytes_of (sym begun)) ∙ place_of_offset-at lists.names k b bs (found_there lists.names name k f.there) in
    record {
      types = p.types;
      items = p.items;
      names = length (with_at list k name);
      fits = ap (by_name lists p at) (ne_eqb at 0 (λ zeroth. omega (arith, zeroth, is, some-bytes (take k list))))
          ∙ place_passes list lists.names name k p.names (place_of_offset 1 lists.names at) (λ n. record p { names = n }) c.names place f;
      counts = subst (Counts (record p { names = length (with_at list k name) })) (sym e) (record { types = c.types; items = c.items; names = refl });
    }

pub add_passes : (lists : Lists) (x : Tables) (p : ReplayState) (table : TableKind) (at : ℕ) (bytes : List ℕ) → at ≡ first_or_next x table bytes → Counts p (lists_of x) → AreBeginnings (lists_of (with_added x table at bytes)) lists
    → AddStep lists x p table at bytes
add_passes lists x p Types at r shows c reached = add_type lists x p at r shows c reached
add_passes lists x p Items at r shows c reached = add_item lists x p at r shows c reached
add_passes lists x p Names at [] shows c reached = add_empty_name lists x p at shows c
add_passes lists x p Names at (b ∷ bs) shows c reached = add_some_name lists x p at b bs shows c reached

-- What the code lets pass is shown by a word of some record or name.

pub record Brought (lists : Lists) (x : Tables) (table : TableKind) (at : ℕ) : Type 0 where
  pub bytes : List ℕ
  pub shows : at ≡ first_or_next x table bytes
  pub reached : AreBeginnings (lists_of (with_added x table at bytes)) lists

-- a place that the code lets pass
place_taken : (final : List (List ℕ)) (count : ℕ) (place : Option ℕ) (to q : ReplayState) → cond (place_fits final count place) (Some to) None ≡ Some q → (k : ℕ) × (place ≡ Some k) × (place_fits final count (Some k) ≡ true)
place_taken final count None to q e = absurd cc
place_taken final count (Some k) to q e = go (place_fits final count (Some k)) refl e where
  go : (b : Bool) → place_fits final count (Some k) ≡ b → cond b (Some to) None ≡ Some q → (i : ℕ) × (Some k ≡ Some i) × (place_fits final count (Some i) ≡ true)
  go true fits e = (k, refl, fits)
  go false fits e = absurd cc

found_type : (lists : Lists) (x : Tables) (p q : ReplayState) (at : ℕ) → Counts p (lists_of x) → AreBeginnings (lists_of x) lists → state_after_add lists p Types at ≡ Some q → Brought lists x Types at
found_type lists x p q at c reached e =
    let list = x.types.records in
    let place = place_of_index at in
    let k = place_taken lists.types p.types place (record p { types = count_with p.types place }) q e in
    let is : at ≡ index_at k.0 = index_at-place at k.0 k.1 in
    let f = fits_placed list lists.types k.0 p.types c.types reached.types k.2 in
    record {
      bytes = f.0;
      shows = is ∙ ap index_at (sym f.1.place) ∙ sym (index_of-place list f.0);
      reached = subst (λ z. AreBeginnings z lists) (sym (lists_types x at f.0 k.0 is)) (record { types = f.1.begins; items = reached.items; names = reached.names });
    }

found_item : (lists : Lists) (x : Tables) (p q : ReplayState) (at : ℕ) → Counts p (lists_of x) → AreBeginnings (lists_of x) lists → state_after_add lists p Items at ≡ Some q → Brought lists x Items at
found_item lists x p q at c reached e =
    let list = x.items.records in
    let place = place_of_index at in
    let k = place_taken lists.items p.items place (record p { items = count_with p.items place }) q e in
    let is : at ≡ index_at k.0 = index_at-place at k.0 k.1 in
    let f = fits_placed list lists.items k.0 p.items c.items reached.items k.2 in
    record {
      bytes = f.0;
      shows = is ∙ ap index_at (sym f.1.place) ∙ sym (index_of-place list f.0);
      reached = subst (λ z. AreBeginnings z lists) (sym (lists_items x at f.0 k.0 is)) (record { types = reached.types; items = f.1.begins; names = reached.names });
    }

found_name : (lists : Lists) (x : Tables) (p q : ReplayState) (at : ℕ) → Counts p (lists_of x) → AreBeginnings (lists_of x) lists → by_name lists p at false ≡ Some q → Brought lists x Names at
found_name lists x p q at c reached e =
    let list = x.names.names in
    let place = place_of_offset 1 lists.names at in
    let k = place_taken lists.names p.names place (record p { names = count_with p.names place }) q e in
    let i : IsNameAt 0 lists.names at k.0 = name_at_offset 0 lists.names at k.0 k.1 in
    let name : List ℕ = i.first ∷ i.others in
    let g = fits_placed list lists.names k.0 p.names c.names reached.names k.2 in
    let same : Some g.0 ≡ Some name = sym (found_there lists.names g.0 k.0 g.1.there) ∙ i.there in
    let equal : g.0 ≡ name = cc in
    let f : Placed list lists.names name k.0 = subst (λ r. Placed list lists.names r k.0) equal g.1 in
    let is : at ≡ bytes_of (take k.0 list) = i.begins ∙ zero-add (bytes_of (take k.0 lists.names)) ∙ ap bytes_of (take-begun list lists.names k.0 reached.names f.within) in
    record {
      bytes = name;
      shows = is ∙ ap (λ n. bytes_of (take n list)) (sym f.place) ∙ sym (offset_of-place list name);
      reached = subst (λ z. AreBeginnings z lists) (sym (lists_names x at name k.0 f.within is)) (record { types = reached.types; items = reached.items; names = f.begins });
    }

pub add_found : (lists : Lists) (x : Tables) (p q : ReplayState) (table : TableKind) (at : ℕ) → Counts p (lists_of x) → AreBeginnings (lists_of x) lists → state_after_add lists p table at ≡ Some q → Brought lists x table at
add_found lists x p q Types at c reached e = found_type lists x p q at c reached e
add_found lists x p q Items at c reached e = found_item lists x p q at c reached e
add_found lists x p q Names at c reached e = go (at == 0) refl e where
  go : (b : Bool) → (at == 0) ≡ b → by_name lists p at b ≡ Some q → Brought lists x Names at
  go true zeroth e = let is : at ≡ 0 = equal at 0 zeroth in record { bytes = []; shows = is; reached = subst (λ z. AreBeginnings z lists) (sym (lists_empty_name x at is)) reached }
  go false other e = found_name lists x p q at c reached e
