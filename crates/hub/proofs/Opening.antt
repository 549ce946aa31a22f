-- A hub over a book as just opened, and what is left of it.
use Rattle.std.proofs.Common.{◌≡◌, ◌≤◌, ◌+◌, ◌-◌, ◌^◌, ◌==◌, ℕ, false, cond, List, [], ◌∷◌, ◌++◌, length, map, take, drop, Option, Some, None, refl, sym, ap, ◌∙◌, subst, arith}
use Rattle.std.proofs.lemmas.Bool.{ne_eqb}
use Rattle.srv_edge.specs.declared.device.Device.{Ghosts}
use Rattle.srv_edge.specs.declared.failed.Limits.{Limits}
use Rattle.record_table.specs.Table as records
use Rattle.names_table.specs.Names as strings
use Rattle.turnstile.specs.declared.history.Basis.{Basis}
use Rattle.turnstile.specs.declared.history.Entry.{Entry}
use Rattle.table_model.specs.Bounds.{bounds_of}
use Rattle.table_model.specs.File.{MayLeave, newest_cut}
use Rattle.table_model.specs.Tables.{Tables}
use Rattle.type_store.specs.Committed.{GoesOn}
use Rattle.type_store.specs.Files.{FileView, HasBounds, cut_of}
use Rattle.type_store.specs.Opened.{IsOpened}
use Rattle.core_model.specs.Cuts.{IsAllowed, opened_cut}
use Rattle.core_model.specs.History.{IsStart, after, age_of, opened_tables}
use Rattle.core_model.proofs.Allowed.{allowed_opened}
use Rattle.core_model.proofs.Answered.{IsWithin}
use Rattle.core_model.proofs.Growing.{legal_nothing}
use Rattle.core_model.proofs.Sound.{sound_standing}
use Rattle.hub.specs.Bases.{basis_of, bounds_in, loans_in, number_of_size, shape_in, size_of_number}
use Rattle.hub.specs.Books.{BookView, GoOnIn, IsKept}
use Rattle.hub.specs.Ends.{IsNew}
use Rattle.hub.specs.Kept.{IsFileOf, IsFrom, IsHub, IsShelved}
use Rattle.std.proofs.lemmas.Option.{same_Some}
use Rattle.hub.specs.Stories.{entries_in}
use Rattle.hub.proofs.Ending.{goes_on_self, settled_leaves}

-- ---- what a basis tells of the file that it is of

size_back : (x : Option ℕ) → size_of_number (number_of_size x) ≡ x
size_back None = refl
size_back (Some n) =
    let some : (n + 1 == 0) ≡ false = ne_eqb (n + 1) 0 (λ e. absurd (omega arith)) in
    let same : n + 1 - 1 ≡ n = omega arith in
    ap (λ t. cond t None (Some (n + 1 - 1))) some ∙ ap Some same

sizes_back : (sizes : List (Option ℕ)) (rest : List ℕ) → map size_of_number (take (length sizes) (map number_of_size sizes ++ rest)) ≡ sizes
sizes_back [] rest = refl
sizes_back (x ∷ sizes) rest = ap (λ z. z ∷ map size_of_number (take (length sizes) (map number_of_size sizes ++ rest))) (size_back x) ∙ ap (λ z. x ∷ z) (sizes_back sizes rest)

rest_back : (sizes : List (Option ℕ)) (rest : List ℕ) → drop (length sizes) (map number_of_size sizes ++ rest) ≡ rest
rest_back [] rest = refl
rest_back (x ∷ sizes) rest = rest_back sizes rest

module _ {D : Type 0} (g : Ghosts D) (limits : Limits) (f : FileView D) (x : Tables) where
  pub shape_back : f.shape ≡ shape_in (basis_of g limits f x)
  shape_back =
      ap (λ (z : _). record { block = f.shape.block; blocks = f.shape.blocks; sizes = z; type_hashes = f.shape.type_hashes; item_hashes = f.shape.item_hashes; names_stream = f.shape.names_stream })
      (sym (sizes_back f.shape.sizes (g.loans f.device)))

  pub loans_back : g.loans f.device ≡ loans_in (basis_of g limits f x)
  loans_back = sym (rest_back f.shape.sizes (g.loans f.device))

-- ---- a hub over a book

made : (t t' i i' : records.Table) (n n' : strings.Names) → t ≡ t' → i ≡ i' → n ≡ n' → ◌≡◌ {A = Tables} (record { types = t; items = i; names = n }) (record { types = t'; items = i'; names = n' })
made t t' i i' n n' p q r = cc

named : (n : strings.Names) (most : ℕ) → n.max_bytes ≡ most → n ≡ record { max_bytes = most; version = n.version; names = n.names }
named n most e = ap (λ (z : ℕ). record { max_bytes = z; version = n.version; names = n.names }) e

module _ {D : Type 0} (g : Ghosts D) (limits : Limits) (seen : List ℕ) (f : FileView D) (x : Tables) (o : IsOpened (bounds_of limits) seen f x) where
  pub tables_back : x ≡ opened_tables (basis_of g limits f x)
  tables_back = made x.types _ x.items _ x.names _ o.within.type_limits o.within.item_limits (named x.names limits.name_bytes o.within.name_limit)

  pub age_back : f.last ≡ age_of (basis_of g limits f x)
  age_back = sym (ap (λ z. (newest_cut z).number) o.file)

  start_back : IsStart (basis_of g limits f x)
  start_back = record {
    age = omega (arith, age_back, o.small);
    few_records = omega (arith, ap (λ (t : records.Table). t.max_records) o.within.type_limits, o.within.types.most_records);
    few_bytes = omega (arith, ap (λ (t : records.Table). t.max_bytes) o.within.type_limits, o.within.types.most_bytes);
    few_name_bytes = omega (arith, o.within.name_limit, o.within.names.limit);
    types = subst records.WithinLimits o.within.type_limits o.within.types.within;
    items = subst records.WithinLimits o.within.item_limits o.within.items.within;
    names = omega (arith, o.within.name_limit, o.within.names.bytes);
  }

  file_back : IsFileOf g (basis_of g limits f x) (IsAllowed (basis_of g limits f x) []) (after (basis_of g limits f x) []) (age_of (basis_of g limits f x)) 0 f
  file_back = record {
    shown = λ c may. subst (IsAllowed (basis_of g limits f x) []) (sym (settled_leaves (cut_of f.last x) c (subst (λ z. MayLeave z c) o.file may) ∙ opened)) (allowed_opened (basis_of g limits f x));
    newest = subst (λ z. GoesOn (newest_cut z).tables (opened_tables (basis_of g limits f x))) (sym o.file) (subst (GoesOn x) tables_back (goes_on_self x));
    last = age_back;
    faults = omega arith;
    loans = loans_back g limits f x;
    bounds = o.bounds_are;
    shape = shape_back g limits f x;
  } where
    opened : cut_of f.last x ≡ opened_cut (basis_of g limits f x)
    opened = ap (λ n. cut_of n x) age_back ∙ ap (cut_of (age_of (basis_of g limits f x))) tables_back

  pub opened_hub : (few : limits.calls ≤ 2 ^ 26) (acked : ℕ) → acked ≡ f.last → IsHub g (basis_of g limits f x) [] x 0 acked (age_of (basis_of g limits f x)) (Some f)
  opened_hub few acked is = record {
    start = start_back;
    few_calls = few;
    legal = legal_nothing (basis_of g limits f x);
    tables = tables_back;
    acked = is ∙ age_back;
    last = refl;
    room = omega arith;
    reserved = omega arith;
    shelved = (refl, file_back);
  }

-- ---- the book of a hub

pub has_bounds : (b : Basis) (x : Tables) → IsWithin b x → HasBounds (bounds_in b) x
has_bounds b x w = record {
  type_records = ap (λ (t : records.Table). t.max_records) w.types;
  type_bytes = ap (λ (t : records.Table). t.max_bytes) w.types;
  item_records = ap (λ (t : records.Table). t.max_records) w.items;
  item_bytes = ap (λ (t : records.Table). t.max_bytes) w.items;
  names = ap (λ (n : strings.Names). n.max_bytes) w.names;
}

pub book_kept : {D : Type 0} (g : Ghosts D) (b : Basis) (h : List Entry) (x : Tables) (spare acked last : ℕ) (file : Option (FileView D)) → IsHub g b h x spare acked last file → IsKept x file
book_kept {D} g b h x spare acked last file i v is = go (subst (IsShelved g b h) is i.shelved) where
  go : IsShelved g b h (Some v) → GoOnIn x v
  go s = record {
    on = subst (GoesOn (newest_cut v.file).tables) (sym i.tables) s.1.newest;
    bounds = subst (λ z. HasBounds z x) (sym s.1.bounds) (has_bounds b x (subst (IsWithin b) (sym i.tables) (sound_standing b h i.start i.legal).within));
  }

pub book_is : {D : Type 0} (t u : Tables) (f k : Option (FileView D)) (n m : ℕ) → t ≡ u → f ≡ k → n ≡ m → ◌≡◌ {A = BookView D} (record { tables = t; file = f; acked = n }) (record { tables = u; file = k; acked = m })
book_is t u f k n m p q r = cc

-- the value over a new book
pub book_opened : {D : Type 0} (g : Ghosts D) (limits : Limits) (book : BookView D) (other f : FileView D) (x first : Tables) (words : List ℕ) (spare acked age types items names : ℕ) → limits.calls ≤ 2 ^ 26 → IsNew limits other book → book ≡ record { tables = x; file = Some f; acked = acked } → first ≡ x →
    words ≡ [] → spare ≡ 0 → age ≡ (newest_cut f.file).number → types ≡ length x.types.records → items ≡ length x.items.records → names ≡ length x.names.names →
    IsHub g (basis_of g limits f first) (entries_in x words) x spare acked age (Some f) × IsFrom (basis_of g limits f first) age types items names
book_opened {D} g limits book other f x first words spare acked age types items names few new is same none zero number p q r =
    let there : f ≡ other = same_Some f other (ap (λ (v : BookView D). v.file) (sym is) ∙ new.there) in
    let opened : IsOpened (bounds_of limits) new.seen f x = subst (λ z. IsOpened (bounds_of limits) new.seen z x) (sym there) (subst (IsOpened (bounds_of limits) new.seen other) (ap (λ (v : BookView D). v.tables) is) new.opened) in
    let ack : acked ≡ f.last = ap (λ (v : BookView D). v.acked) (sym is) ∙ new.acked ∙ ap (λ (z : FileView D). z.last) (sym there) in
    subst (λ t. IsHub g (basis_of g limits f t) (entries_in x words) x spare acked age (Some f) × IsFrom (basis_of g limits f t) age types items names) (sym same) (
      subst (λ w. IsHub g (basis_of g limits f x) (entries_in x w) x spare acked age (Some f)) (sym none)
          (subst (λ n. IsHub g (basis_of g limits f x) [] x n acked age (Some f)) (sym zero)
          (subst (λ n. IsHub g (basis_of g limits f x) [] x 0 acked n (Some f)) (sym number) (opened_hub g limits new.seen f x opened few acked ack))),
      record { age_is = number; counts = ap (λ n. (n, items, names)) p ∙ ap (λ n. (length x.types.records, n, names)) q ∙ ap (λ n. (length x.types.records, length x.items.records, n)) r },
    )
