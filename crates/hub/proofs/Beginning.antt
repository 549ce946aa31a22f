-- A commit begins: the file goes out.
use Rattle.std.proofs.Common.{◌≡◌, ◌≢◌, ◌≤◌, ◌<◌, ◌+◌, ℕ, Bool, true, false, List, [], ◌∷◌, ◌++◌, Option, Some, None, refl, sym, ap, ◌∙◌, subst, arith, length-append}
use Rattle.std.specs.Prelude.{All}
use Rattle.std.proofs.lemmas.List.Elements.{All-cons, All-nil, All-push}
use Rattle.srv_edge.specs.Count.{RoseBy}
use Rattle.srv_edge.specs.declared.device.Device.{Ghosts}
use Rattle.turnstile.specs.declared.history.Entry.{Entry}
use Rattle.turnstile.specs.declared.history.Basis.{Basis}
use Rattle.turnstile.specs.Histories.{caller}
use Rattle.call_journal.specs.declared.deed.Deed.TheVariants.{Began, Ended, Underway}
use Rattle.call_journal.specs.Words.{IsDeed, deed_of, word_of}
use Rattle.table_model.specs.Cut.{Cut}
use Rattle.table_model.specs.Tables.{Tables}
use Rattle.type_store.specs.Files.{FileView, MayBegin, Pending, cut_of, prepared}
use Rattle.srv_edge.specs.declared.failed.Refusal.TheVariants as refusal
use Rattle.core_model.specs.Cuts.{IsAllowed}
use Rattle.core_model.specs.Legal.{faulted_ends}
use Rattle.core_model.specs.Entries.{entry_of}
use Rattle.core_model.specs.declared.commit.OpenCommit.{OpenCommit}
use Rattle.core_model.specs.History.{IsLegal, IsStart, Standing, after, after_deed, age_of, most_calls, standing}
use Rattle.core_model.proofs.Allowed.{allowed_more}
use Rattle.core_model.proofs.Filing.{IsCallEntry}
use Rattle.core_model.proofs.Growing.{legal_before, legal_more, standing_more}
use Rattle.core_model.proofs.Open.{faulted_same}
use Rattle.core_model.proofs.Replying.{fits_there}
use Rattle.core_model.proofs.Sound.{IsOf, after_of, fits_of, is_of, rising, sound_standing}
use Rattle.hub.specs.Bases.{faults_at_opening, shape_in}
use Rattle.hub.specs.Calls.{IsBeginning, IsUnderWay, next_number}
use Rattle.hub.specs.Kept.{IsHub, IsNoEnd, IsOut}
use Rattle.hub.specs.Stories.{acknowledged_by, entries_in, last_acknowledged, one_if_open, taken}
use Rattle.hub.proofs.Answering.{story_at}
use Rattle.hub.proofs.Filing.{IsFiled, acked_more, hub_behind, read_filed}

-- ---- no commit of the next number has ended

all_places : (P : Entry → Type 0) (xs : List Entry) → ((before : List Entry) (e : Entry) (rest : List Entry) → xs ≡ before ++ e ∷ rest → P e) → All P xs
all_places P [] f = All-nil P
all_places P (x ∷ xs) f = All-cons P x xs (f [] x xs refl) (all_places P xs (λ before e rest at. f (x ∷ before) e rest (ap (λ z. x ∷ z) at)))

ended_before : (b : Basis) (h before rest : List Entry) (e : Entry) (n : ℕ) (ok : Bool) → IsStart b → IsLegal b h → h ≡ before ++ e ∷ rest → deed_of e.word ≡ Some (Ended n ok) → n ≤ (standing b h).number
ended_before b h before rest e n ok start l at is =
    let whole : IsLegal b (before ++ e ∷ rest) = subst (IsLegal b) at l in
    let short : IsLegal b before = legal_before b before (before ++ e ∷ rest) whole (record { rest = e ∷ rest; whole = refl }) in
    let own : n ≡ (standing b before).number = (sound_standing b before start short).newest (record { caller = caller e; number = n }) (fits_there b before rest e (Some (Ended n ok)) whole is).1 in
    let high : (standing b before).number ≤ (standing b (before ++ e ∷ rest)).number = rising b before (e ∷ rest) whole in
    let same : (standing b h).number ≡ (standing b (before ++ e ∷ rest)).number = ap (λ z. (standing b z).number) at in
    omega arith

pub unended_next : (b : Basis) (h : List Entry) → IsStart b → IsLegal b h → All (IsNoEnd (next_number b h)) h
unended_next b h start l = all_places (IsNoEnd (next_number b h)) h (λ before e rest at ok is. let low = ended_before b h before rest e (next_number b h) ok start l at is in absurd (omega (arith, low)))

-- the commit under way, where it is not none
pub some_open : (b : Basis) (h : List Entry) → (standing b h).under_way ≢ None → (k : OpenCommit) × ((standing b h).under_way ≡ Some k)
some_open b h some = go (standing b h).under_way refl where
  go : (o : Option OpenCommit) → (standing b h).under_way ≡ o → (k : OpenCommit) × ((standing b h).under_way ≡ Some k)
  go None is = absurd (some is)
  go (Some k) is = (k, is)

-- ---- the value and the file

-- what stands behind the beginning of a commit
begun_standing : (b : Basis) (h : List Entry) (c n : ℕ) (e : Entry) → IsOf c (Began n) e → standing b (h ++ e ∷ []) ≡ after_deed (standing b h) c (Some (Began n)) e.brought
begun_standing b h c n e o = standing_more b h e ∙ after_of (standing b h) c (Began n) e o

-- What a beginning makes of the value, and the file that goes out.
pub record Begun {D : Type 0} (g : Ghosts D) (b : Basis) (h : List Entry) (c : ℕ) (x : Tables) (words : List ℕ) (spare acked last : ℕ) (pending : Pending) (f : FileView D) : Type 0 where
  pub begins : IsBeginning (story_at b h) (story_at b (entries_in x words)) c
  pub hub : IsHub g b (entries_in x words) x spare acked last None
  pub out : IsOut g b (entries_in x words) pending f

module _ {D : Type 0} (g : Ghosts D) where
  -- the value with its file at home
  pub home : (b : Basis) (h : List Entry) (x : Tables) (spare acked last : ℕ) (file : Option (FileView D)) (f : FileView D) → IsHub g b h x spare acked last file → file ≡ Some f → IsHub g b h x spare acked last (Some f)
  home b h x spare acked last file f i is = subst (IsHub g b h x spare acked last) is i

  hub_begun : (b : Basis) (h : List Entry) (c n : ℕ) (x : Tables) (spare more acked last : ℕ) (f : FileView D) → IsHub g b h x spare acked last (Some f) → IsOf c (Began n) (entry_of c (Began n) []) →
      IsLegal b (h ++ entry_of c (Began n) [] ∷ []) → taken b h + 2 ≤ most_calls b → 1 ≤ more → IsHub g b (h ++ entry_of c (Began n) [] ∷ []) x more acked n None
  hub_begun b h c n x spare more acked last f i o l room reserved =
      let e : Entry = entry_of c (Began n) [] in
      let there = begun_standing b h c n e o in
      let shown : (standing b (h ++ e ∷ [])).under_way ≡ Some (record { caller = c; number = n }) = ap (λ (z : Standing). z.under_way) there in
      let one : one_if_open (standing b (h ++ e ∷ [])).under_way ≡ 1 = ap one_if_open shown in
      let none : one_if_open (standing b h).under_way ≡ 0 = ap one_if_open i.shelved.0 in
      record {
        start = i.start;
        few_calls = i.few_calls;
        legal = l;
        tables = i.tables ∙ sym (ap (λ (z : Standing). z.tables) there);
        acked = i.acked ∙ sym (acked_more (age_of b) h e ∙ ap (acknowledged_by (last_acknowledged (age_of b) h)) o.deed_is);
        last = sym (ap (λ (z : Standing). z.number) there);
        room = omega (arith, length-append h (e ∷ []), one, none);
        reserved = omega (arith, one);
        shelved = (record { caller = c; number = n }, shown);
      }

  out_begun : (b : Basis) (h kept : List Entry) (c n : ℕ) (x : Tables) (spare acked last : ℕ) (f : FileView D) (pending : Pending) → IsHub g b h x spare acked last (Some f) → IsOf c (Began n) (entry_of c (Began n) []) →
      kept ≡ h ++ entry_of c (Began n) [] ∷ [] → n ≡ (standing b h).number + 1 → pending.cut ≡ cut_of (f.last + 1) x → IsOut g b kept pending (prepared pending f)
  out_begun b h kept c n x spare acked last f pending i o whole next cut =
      let e : Entry = entry_of c (Began n) [] in
      let file = i.shelved.1 in
      let given : f.last + 1 ≡ n = ap (λ k. k + 1) file.last ∙ sym next in
      let no_end : (m : ℕ) (ok : Bool) → deed_of e.word ≡ Some (Ended m ok) → ⊥ = λ m ok at. let d : Some (Began n) ≡ Some (Ended m ok) = sym o.deed_is ∙ at in cc in
      record {
        begun = record { before = h; began = e; number = n; whole = whole; deed = o.deed_is };
        cut = cut ∙ ap (λ k. cut_of k x) given ∙ ap (cut_of n) i.tables;
        ready = refl;
        file = record {
          shown = λ left may. subst (λ z. IsAllowed b z left) (sym whole) (allowed_more b h left e (λ m at. no_end m true at) (file.shown left may));
          newest = file.newest;
          last = given;
          faults = subst (λ k. RoseBy k (faults_at_opening b) (g.fault_count f.device)) (sym (ap faulted_ends whole ∙ faulted_same h e (λ m at. no_end m false at))) file.faults;
          loans = file.loans;
          bounds = file.bounds;
          shape = file.shape;
        };
      }

  pub begins : (b : Basis) (x : Tables) (words more : List ℕ) (c n : ℕ) (spare room acked last : ℕ) (f : FileView D) (pending : Pending) → IsHub g b (entries_in x words) x spare acked last (Some f) → c < 256 →
      pending.cut ≡ cut_of (f.last + 1) x → MayBegin f.shape f.last x → n ≡ pending.cut.number → more ≡ words ++ word_of c (Began n) ∷ [] →
      taken b (entries_in x words) + 2 ≤ most_calls b → 1 ≤ room → Begun g b (entries_in x words) c x more room acked n pending (prepared pending f)
  begins b x words more c n spare room acked last f pending i few cut may number grows place reserved =
      let h = entries_in x words in
      let file = i.shelved.1 in
      let next : n ≡ (standing b h).number + 1 = number ∙ ap (λ (z : Cut). z.number) cut ∙ ap (λ k. k + 1) file.last in
      let small : IsDeed (Began n) = omega (arith, next, file.last, may.number) in
      let e : Entry = entry_of c (Began n) [] in
      let o : IsOf c (Began n) e = is_of c (Began n) [] few small in
      let l : IsLegal b (h ++ e ∷ []) = legal_more b h e i.legal (fits_of (standing b h) c (Began n) e o refl (refl, i.shelved.0, next)) in
      let filed : IsFiled g b h e x more room acked n None = read_filed g b x x words more e room acked n None (hub_begun b h c n x spare room acked last f i o l place reserved) grows in
      record {
        begins = record {
          idle = i.shelved.0;
          filed = record { basis = refl; entries = filed.entries ∙ ap (λ k. h ++ entry_of c (Began k) [] ∷ []) next; own = subst (λ k. caller (entry_of c (Began k) []) ≡ c) next o.caller_is };
          room = place;
          may = may_here b h x f may file.shape file.last i.tables;
          unended = subst (All (IsNoEnd (next_number b h))) (sym filed.entries)
              (All-push (IsNoEnd (next_number b h)) h e (unended_next b h i.start i.legal) (λ ok at. let d : Some (Began n) ≡ Some (Ended (next_number b h) ok) = sym o.deed_is ∙ at in cc));
        };
        hub = filed.hub;
        out = out_begun b h (entries_in x more) c n x spare acked last f pending i o filed.entries next cut;
      } where
        may_here : (b : Basis) (h : List Entry) (x : Tables) (f : FileView D) → MayBegin f.shape f.last x → f.shape ≡ shape_in b → f.last ≡ (standing b h).number → x ≡ after b h → MayBegin (shape_in b) (standing b h).number (after b h)
        may_here b h x f m s p q = subst (λ z. MayBegin z (standing b h).number (after b h)) s (subst (λ z. MayBegin f.shape z (after b h)) p (subst (MayBegin f.shape f.last) q m))

  -- ---- a commit is refused while another is under way

  -- What a refusal makes of the value.
  pub record Hindered (b : Basis) (h : List Entry) (c n : ℕ) (x : Tables) (words : List ℕ) (spare acked last : ℕ) (file : Option (FileView D)) : Type 0 where
    pub refuses : IsUnderWay (story_at b h) (story_at b (entries_in x words)) c (refusal.Underway n)
    pub hub : IsHub g b (entries_in x words) x spare acked last file

  pub hinders : (b : Basis) (x : Tables) (words more : List ℕ) (c n : ℕ) (k : OpenCommit) (spare room acked last : ℕ) (file : Option (FileView D)) → IsHub g b (entries_in x words) x spare acked last file → c < 256 →
      (standing b (entries_in x words)).under_way ≡ Some k → n ≡ last → more ≡ words ++ word_of c (Underway n) ∷ [] →
      taken b (entries_in x words) + 1 ≤ most_calls b → 1 ≤ room → Hindered b (entries_in x words) c n x more room acked last file
  hinders b x words more c n k spare room acked last file i few shown newest grows place reserved =
      let h = entries_in x words in
      let same : n ≡ k.number = newest ∙ i.last ∙ sym ((sound_standing b h i.start i.legal).newest k shown) in
      let e : Entry = entry_of c (Underway k.number) [] in
      let sound = sound_standing b h i.start i.legal in
      let o : IsOf c (Underway k.number) e = is_of c (Underway k.number) [] few (omega (arith, sound.newest k shown, sound.number)) in
      let entry : IsCallEntry (standing b h) c e = record { deed = Underway k.number; is = o; bytes = refl; fits = (refl, (k.caller, shown)); quiet = tt } in
      let one : one_if_open (standing b h).under_way ≡ 1 = ap one_if_open shown in
      let stays : x ≡ after b (h ++ e ∷ []) = i.tables ∙ sym (ap (λ (z : Standing). z.tables) (standing_more b h e ∙ after_of (standing b h) c (Underway k.number) e o)) in
      let filed : IsFiled g b h e x more room acked last file = read_filed g b x x words more e room acked last file (hub_behind g b h c e x x spare room acked last file i entry stays place (omega (arith, one))) (grows ∙ ap (λ m. words ++ word_of c (Underway m) ∷ []) same) in
      record {
        refuses = record { commit = k; under_way = shown; is = ap refusal.Underway same; filed = record { basis = refl; entries = filed.entries; own = o.caller_is }; room = place };
        hub = filed.hub;
      }
