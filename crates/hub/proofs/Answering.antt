-- From what the callees of a call ensure to what it makes of the hub's value.
use Rattle.std.proofs.Common.{◌≡◌, ◌⊎◌, ◌≤◌, ◌<◌, ◌+◌, ◌^◌, ℕ, true, List, [], ◌∷◌, ◌++◌, length, Option, Some, None, Result, Ok, Err, refl, sym, ap, ◌∙◌, arith, inl, inr}
use Rattle.srv_edge.specs.declared.device.Device.{Ghosts}
use Rattle.srv_edge.specs.declared.failed.Refusal.{Refusal}
use Rattle.srv_edge.specs.declared.failed.Refusal.TheVariants as refusal
use Rattle.turnstile.specs.declared.history.Entry.{Entry}
use Rattle.turnstile.specs.declared.history.Basis.{Basis}
use Rattle.call_journal.specs.declared.deed.TableKind.{TableKind}
use Rattle.call_journal.specs.declared.deed.TableKind.TheVariants.{Types, Items, Names}
use Rattle.call_journal.specs.declared.deed.Deed.{Deed}
use Rattle.call_journal.specs.declared.deed.Deed.TheVariants.{Added, Asked, Counted}
use Rattle.call_journal.specs.Words.{IsDeed, word_of}
use Rattle.call_journal.proofs.Decoding.{deed_of_word}
use Rattle.record_table.specs.Table as records
use Rattle.names_table.specs.Names as strings
use Rattle.srv_edge.specs.declared.space.TheConstants as space
use Rattle.std.proofs.lemmas.Bool.{lt-ltb}
use Rattle.table_model.specs.declared.call.Call.{Call}
use Rattle.table_model.specs.declared.call.Call.TheVariants.{Counts}
use Rattle.table_model.specs.declared.call.Outcome.{Outcome}
use Rattle.table_model.specs.declared.call.Outcome.TheVariants as outcome
use Rattle.table_model.specs.Tables.{Tables}
use Rattle.table_model.specs.Calls.{answer, bytes_answer, index_answer, is_call, tables_after}
use Rattle.type_store.specs.Files.{FileView}
use Rattle.core_model.specs.Entries.{entry_of, entry_of_call, entry_of_read}
use Rattle.core_model.specs.History.{after, most_calls, standing}
use Rattle.core_model.specs.Law.{add_to}
use Rattle.core_model.proofs.Filing.{IsCallEntry, call_fits}
use Rattle.core_model.proofs.Replying.{tables_of_other}
use Rattle.core_model.proofs.Sound.{sound_standing}
use Rattle.hub.specs.Calls.{Answers, deed_of_add, get_of}
use Rattle.hub.specs.Kept.{IsHub}
use Rattle.hub.specs.Stories.{Story, entries_in, one_if_open, taken}
use Rattle.hub.proofs.Adding.{add_entry, brought_with, tables_behind}
use Rattle.hub.proofs.Filing.{IsFiled, hub_behind, legal_behind, plain, read_filed}

abbrev pub story_at : Basis → List Entry → Story
story_at b h = record { basis = b; entries = h }

-- What a call that has an entry makes of the value.
pub record Made {D : Type 0} (g : Ghosts D) (b : Basis) (h : List Entry) (c : ℕ) (call : Call) (reply : Result Outcome Refusal) (y : Tables) (words : List ℕ) (spare acked last : ℕ) (file : Option (FileView D)) : Type 0 where
  pub answers : Answers (story_at b h) (story_at b (entries_in y words)) c call reply
  pub hub : IsHub g b (entries_in y words) y spare acked last file

kept : (c : ℕ) (deed : Deed) (found : Option (List ℕ)) (space index : ℕ) → entry_of_read c deed (bytes_answer found (refusal.NotGiven space index)) ≡ Some (entry_of c deed [])
kept c deed None space index = refl
kept c deed (Some bytes) space index = refl

module _ {D : Type 0} (g : Ghosts D) where
  -- a call whose entry is filed
  called : (b : Basis) (x y : Tables) (words more : List ℕ) (c : ℕ) (call : Call) (reply : Result Outcome Refusal) (e : Entry) (spare room acked last : ℕ) (file : Option (FileView D)) →
      IsHub g b (entries_in x words) x spare acked last file → c < 256 → is_call call ≡ true → reply ≡ answer x call → entry_of_call c call reply ≡ Some e →
      (IsCallEntry (standing b (entries_in x words)) c e → y ≡ after b (entries_in x words ++ e ∷ [])) → more ≡ words ++ e.word ∷ [] →
      taken b (entries_in x words) + 1 ≤ most_calls b → one_if_open (standing b (entries_in x words)).under_way ≤ room → Made g b (entries_in x words) c call reply y more room acked last file
  called b x y words more c call reply e spare room acked last file i few is right entry behind grows place reserved =
      let h = entries_in x words in
      let here : reply ≡ answer (after b h) call = right ∙ ap (λ t. answer t call) i.tables in
      let k : IsCallEntry (standing b h) c e = call_fits b (standing b h) c call e few is i.start (sound_standing b h i.start i.legal) (ap (entry_of_call c call) (sym here) ∙ entry) in
      let filed : IsFiled g b h e y more room acked last file = read_filed g b x y words more e room acked last file (hub_behind g b h c e x y spare room acked last file i k (behind k) place reserved) grows in
      record {
        answers = record { right = here; entry = e; word = entry; plain = plain (standing b h) c e k; filed = record { basis = refl; entries = filed.entries; own = k.is.caller_is }; room = place };
        hub = filed.hub;
      }

  pub adds : (b : Basis) (x y : Tables) (words more : List ℕ) (c : ℕ) (table : TableKind) (bytes : List ℕ) (r : Result ℕ Refusal) (deed : Deed) (spare room acked last : ℕ) (file : Option (FileView D)) →
      IsHub g b (entries_in x words) x spare acked last file → c < 256 → is_call (add_to table bytes) ≡ true →
      ((index_answer r ≡ answer x (add_to table bytes)) × (y ≡ tables_after x (add_to table bytes))) ⊎ ((r ≡ Err refusal.OutOfMemory) × (y ≡ x)) →
      Some deed ≡ deed_of_add table (length bytes) r → IsDeed deed → more ≡ words ++ word_of c deed ∷ [] →
      taken b (entries_in x words) + 1 ≤ most_calls b → one_if_open (standing b (entries_in x words)).under_way ≤ room → Made g b (entries_in x words) c (add_to table bytes) (index_answer r) y more room acked last file
  adds b x y words more c table bytes r deed spare room acked last file i few is (inr wants) has small grows place reserved = absurd (let unlike : Some deed ≡ deed_of_add table (length bytes) (Err refusal.OutOfMemory) = has ∙ ap (deed_of_add table (length bytes)) wants.0 in cc)
  adds b x y words more c table bytes r deed spare room acked last file i few is (inl did) has small grows place reserved =
      let h = entries_in x words in
      let e : Entry = entry_of c deed (brought_with bytes r) in
      called b x y words more c (add_to table bytes) (index_answer r) e spare room acked last file i few is did.0 (add_entry c table bytes r deed (sym has))
      (λ k. did.1 ∙ ap (λ t. tables_after t (add_to table bytes)) i.tables ∙ sym (tables_behind b h c table bytes r deed (legal_behind b h c e i.legal k) small (sym has) (did.0 ∙ ap (λ t. answer t (add_to table bytes)) i.tables)))
      grows place reserved

  -- a call that reads: its entry is that of a deed, whatever is answered, and the tables stay
  reads : (b : Basis) (x : Tables) (words more : List ℕ) (c : ℕ) (call : Call) (reply : Result Outcome Refusal) (deed : Deed) (spare room acked last : ℕ) (file : Option (FileView D)) →
      IsHub g b (entries_in x words) x spare acked last file → c < 256 → is_call call ≡ true → reply ≡ answer x call → entry_of_call c call (answer x call) ≡ Some (entry_of c deed []) → IsDeed deed →
      ((other : TableKind) (at : ℕ) → Some deed ≡ Some (Added other at) → ⊥) → more ≡ words ++ word_of c deed ∷ [] →
      taken b (entries_in x words) + 1 ≤ most_calls b → one_if_open (standing b (entries_in x words)).under_way ≤ room → Made g b (entries_in x words) c call reply x more room acked last file
  reads b x words more c call reply deed spare room acked last file i few is right entry small unlike grows place reserved =
      let h = entries_in x words in
      let e : Entry = entry_of c deed [] in
      called b x x words more c call reply e spare room acked last file i few is right (ap (entry_of_call c call) right ∙ entry)
      (λ k. i.tables ∙ sym (tables_of_other b h e (λ other at eq. unlike other at (sym (deed_of_word c deed small) ∙ eq)))) grows place reserved

  get_entry : (x : Tables) (c : ℕ) (table : TableKind) (at : ℕ) → entry_of_call c (get_of table at) (answer x (get_of table at)) ≡ Some (entry_of c (Asked table at) [])
  get_entry x c Types at = kept c (Asked Types at) (records.record_at x.types at) space.TYPES at
  get_entry x c Items at = kept c (Asked Items at) (records.record_at x.items at) space.ITEMS at
  get_entry x c Names at = kept c (Asked Names at) (strings.name_at x.names at) space.NAMES at

  is_get : (table : TableKind) (at : ℕ) → at < 2 ^ 32 → is_call (get_of table at) ≡ true
  is_get Types at small = lt-ltb at (2 ^ 32) small
  is_get Items at small = lt-ltb at (2 ^ 32) small
  is_get Names at small = lt-ltb at (2 ^ 32) small

  pub gets : (b : Basis) (x : Tables) (words more : List ℕ) (c : ℕ) (table : TableKind) (at : ℕ) (reply : Result Outcome Refusal) (spare room acked last : ℕ) (file : Option (FileView D)) →
      IsHub g b (entries_in x words) x spare acked last file → c < 256 → at < 2 ^ 32 → reply ≡ answer x (get_of table at) → more ≡ words ++ word_of c (Asked table at) ∷ [] →
      taken b (entries_in x words) + 1 ≤ most_calls b → one_if_open (standing b (entries_in x words)).under_way ≤ room → Made g b (entries_in x words) c (get_of table at) reply x more room acked last file
  gets b x words more c table at reply spare room acked last file i few small right grows place reserved =
      reads b x words more c (get_of table at) reply (Asked table at) spare room acked last file i few (is_get table at small) right (get_entry x c table at) small (λ other place unlike. cc) grows place reserved

  pub counted : (b : Basis) (x : Tables) (words more : List ℕ) (c : ℕ) (reply : Result Outcome Refusal) (spare room acked last : ℕ) (file : Option (FileView D)) →
      IsHub g b (entries_in x words) x spare acked last file → c < 256 → reply ≡ answer x Counts → more ≡ words ++ word_of c Counted ∷ [] →
      taken b (entries_in x words) + 1 ≤ most_calls b → one_if_open (standing b (entries_in x words)).under_way ≤ room → Made g b (entries_in x words) c Counts reply x more room acked last file
  counted b x words more c reply spare room acked last file i few right grows place reserved =
      reads b x words more c Counts reply Counted spare room acked last file i few refl right refl (omega arith) (λ other at unlike. cc) grows place reserved

-- how much the tables have, as counts answers it
pub counts_are : (types items names : ℕ) (x : Tables) → types ≡ length x.types.records → items ≡ length x.items.records → names ≡ length x.names.names → Ok (outcome.Counts types items names) ≡ answer x Counts
counts_are types items names x p q r = ap (λ n. Ok (outcome.Counts n items names)) p ∙ ap (λ n. Ok (outcome.Counts (length x.types.records) n names)) q ∙ ap (λ n. Ok (outcome.Counts (length x.types.records) (length x.items.records) n)) r
