-- Places and room: what making room for entries gives.
use Rattle.std.proofs.Common.{◌≡◌, ◌≤◌, ◌+◌, ℕ, Bool, true, false, List, length, Option, Some, None, Result, Ok, Err, sym, ap, ◌∙◌, subst, arith, inl, inr}
use Rattle.std.specs.Prelude.{is_some, not, ◌⊎◌}
use Rattle.std.specs.Int.{from_bool}
use Rattle.std.proofs.lemmas.List.{length-map}
use Rattle.srv_edge.specs.declared.device.Device.{Ghosts}
use Rattle.srv_edge.specs.declared.failed.Refusal.{Refusal}
use Rattle.srv_edge.specs.declared.failed.Refusal.TheVariants as refusal
use Rattle.turnstile.specs.declared.history.Basis.{Basis}
use Rattle.turnstile.specs.declared.history.Entry.{Entry}
use Rattle.call_journal.specs.declared.deed.TableKind.{TableKind}
use Rattle.table_model.specs.Tables.{Tables}
use Rattle.table_model.specs.Calls.{answer, index_answer, tables_after}
use Rattle.type_store.specs.Files.{FileView}
use Rattle.type_store.specs.Views.{tables_in}
use Rattle.type_store.specs.declared.tables.Tables as program
use Rattle.core_model.specs.History.{most_calls, standing}
use Rattle.core_model.specs.Law.{add_to}
use Rattle.hub.specs.Calls.{deed_of_add}
use Rattle.hub.specs.Kept.{IsHub}
use Rattle.hub.specs.Stories.{entries_in, entry_read, one_if_open, taken}
use Rattle.hub.proofs.Adding.{refused}
use Rattle.hub.proofs.Filing.{more_room}

module _ {D : Type 0} (g : Ghosts D) where
  -- a place is kept exactly where the file is out
  pub one_is_open : (b : Basis) (h : List Entry) (x : Tables) (spare acked last : ℕ) (file : Option (FileView D)) (t : Bool) → IsHub g b h x spare acked last file → is_some file ≡ not t → one_if_open (standing b h).under_way ≡ from_bool t
  one_is_open b h x spare acked last (Some f) true i e = absurd (cc)
  one_is_open b h x spare acked last (Some f) false i e = ap one_if_open i.shelved.0
  one_is_open b h x spare acked last None true i e = ap one_if_open i.shelved.1
  one_is_open b h x spare acked last None false i e = absurd (cc)

  pub has_place : (b : Basis) (x : Tables) (words : List ℕ) (spare acked last n : ℕ) (file : Option (FileView D)) (t : Bool) → IsHub g b (entries_in x words) x spare acked last file → is_some file ≡ not t → n ≡ from_bool t →
      length words + (1 + n) ≤ most_calls b → taken b (entries_in x words) + 1 ≤ most_calls b
  has_place b x words spare acked last n file t i e same le = omega (arith, length-map words (entry_read x), one_is_open b (entries_in x words) x spare acked last file t i e, same, le)

  pub has_room : (b : Basis) (h : List Entry) (x : Tables) (spare acked last n room left : ℕ) (file : Option (FileView D)) (t : Bool) → IsHub g b h x spare acked last file → is_some file ≡ not t → n ≡ from_bool t →
      1 + n ≤ room → left + 1 ≡ room → one_if_open (standing b h).under_way ≤ left
  has_room b h x spare acked last n room left file t i e same le one = omega (arith, one_is_open b h x spare acked last file t i e, same, le, one)

  -- the same words with more room
  pub same_words : (b : Basis) (x : Tables) (words more : List ℕ) (spare room acked last : ℕ) (file : Option (FileView D)) → more ≡ words → spare ≤ room → IsHub g b (entries_in x words) x spare acked last file → IsHub g b (entries_in x more) x room acked last file
  same_words b x words more spare room acked last file same le i = subst (λ w. IsHub g b (entries_in x w) x room acked last file) (sym same) (more_room g b (entries_in x words) x spare room acked last file le i)

-- what an add leaves, as clauses see it
pub in_view : {P Q : Type 0} (t u : program.Tables) → P ⊎ (Q × (t ≡ u)) → P ⊎ (Q × (tables_in t ≡ tables_in u))
in_view t u (inl p) = inl p
in_view t u (inr q) = inr (q.0, ap tables_in q.1)

-- an add that has no deed leaves the tables
pub no_deed : (x y : Tables) (table : TableKind) (bytes : List ℕ) (r : Result ℕ Refusal) → ((index_answer r ≡ answer x (add_to table bytes)) × (y ≡ tables_after x (add_to table bytes))) ⊎ ((r ≡ Err refusal.OutOfMemory) × (y ≡ x)) → None ≡ deed_of_add table (length bytes) r → y ≡ x
no_deed x y table bytes r (inr wants) none = wants.1
no_deed x y table bytes (Ok at) (inl did) none = absurd (cc)
no_deed x y table bytes (Err why) (inl did) none = did.1 ∙ refused x table bytes why (sym did.0)
