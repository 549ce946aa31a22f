-- An entry that neither begins nor ends a commit keeps what the hub's type keeps.
use Rattle.std.proofs.Common.{◌≡◌, ◌≤◌, ◌+◌, ℕ, Bool, true, false, List, [], ◌∷◌, ◌++◌, length, Option, Some, None, refl, sym, ap, ◌∙◌, subst, arith, length-append}
use Rattle.srv_edge.specs.Count.{RoseBy}
use Rattle.srv_edge.specs.declared.device.Device.{Ghosts}
use Rattle.turnstile.specs.declared.history.Entry.{Entry}
use Rattle.turnstile.specs.declared.history.Basis.{Basis}
use Rattle.call_journal.specs.declared.deed.Deed.{Deed}
use Rattle.call_journal.specs.declared.deed.Deed.TheVariants.{Added, Asked, Counted, NotGiven, Full, Began, Ended, Underway}
use Rattle.call_journal.specs.Words.{deed_of}
use Rattle.table_model.specs.Extends.{Extends}
use Rattle.table_model.specs.File.{newest_cut}
use Rattle.table_model.specs.Tables.{Tables}
use Rattle.type_store.specs.Committed.{GoesOn}
use Rattle.type_store.specs.Files.{FileView}
use Rattle.core_model.specs.Cuts.{IsAllowed}
use Rattle.core_model.specs.History.{IsLegal, IsStart, Standing, after, after_deed, age_of, most_calls, names_version, standing}
use Rattle.core_model.specs.Legal.{IsNoCommit, faulted_ends}
use Rattle.core_model.proofs.Allowed.{allowed_more}
use Rattle.core_model.proofs.Extending.{extends_history, starts_on}
use Rattle.core_model.proofs.Filing.{IsCallEntry, IsQuiet, quiet_keeps}
use Rattle.core_model.proofs.Growing.{legal_before, legal_more, standing_more}
use Rattle.core_model.proofs.Open.{faulted_same}
use Rattle.core_model.proofs.Sound.{after_of, fits_of, sound_standing}
use Rattle.names_table.specs.Names.{Names}
use Rattle.hub.specs.Bases.{faults_at_opening}
use Rattle.hub.specs.Kept.{IsFileOf, IsHub, IsShelved}
use Rattle.hub.specs.Stories.{acknowledged_by, entries_in, last_acknowledged, one_if_open, taken}
use Rattle.hub.proofs.Reading.{reads_more}

-- ---- tables

extends_on : (x y z : Tables) → Extends x y → Extends y z → Extends x z
extends_on x y z p q = record {
  types = starts_on x.types.records y.types.records z.types.records p.types q.types;
  items = starts_on x.items.records y.items.records z.items.records p.items q.items;
  names = starts_on x.names.names y.names.names z.names.names p.names q.names;
}

pub goes_on : (x y z : Tables) → GoesOn x y → GoesOn y z → GoesOn x z
goes_on x y z p q = record { extends = extends_on x y z p.extends q.extends; version = q.version ∙ p.version }

version_behind : (b : Basis) (h : List Entry) → IsStart b → IsLegal b h → (after b h).names.version ≡ names_version b
version_behind b h start l = ap (λ (n : Names). n.version) (sound_standing b h start l).within.names

-- the tables behind a longer history go on from those behind its beginning
pub history_goes_on : (b : Basis) (h more : List Entry) → IsStart b → IsLegal b (h ++ more) → GoesOn (after b h) (after b (h ++ more))
history_goes_on b h more start l = record {
  extends = extends_history b h more;
  version = version_behind b (h ++ more) start l ∙ sym (version_behind b h start (legal_before b h (h ++ more) l (record { rest = more; whole = refl })));
}

-- ---- numbers

pub acked_more : (n : ℕ) (h : List Entry) (e : Entry) → last_acknowledged n (h ++ e ∷ []) ≡ acknowledged_by (last_acknowledged n h) (deed_of e.word)
acked_more n [] e = refl
acked_more n (d ∷ h) e = acked_more (acknowledged_by n (deed_of d.word)) h e

quiet_acked : (n : ℕ) (deed : Deed) → IsQuiet deed → acknowledged_by n (Some deed) ≡ n
quiet_acked n (Added table at) q = refl
quiet_acked n (Asked table at) q = refl
quiet_acked n Counted q = refl
quiet_acked n (NotGiven index space table) q = refl
quiet_acked n (Full size limit table) q = refl
quiet_acked n (Began number) q = absurd q
quiet_acked n (Ended number acknowledged) q = absurd q
quiet_acked n (Underway number) q = refl

quiet_number : (s : Standing) (c : ℕ) (deed : Deed) (bytes : List ℕ) → IsQuiet deed → (after_deed s c (Some deed) bytes).number ≡ s.number
quiet_number s c (Added table at) bytes q = refl
quiet_number s c (Asked table at) bytes q = refl
quiet_number s c Counted bytes q = refl
quiet_number s c (NotGiven index space table) bytes q = refl
quiet_number s c (Full size limit table) bytes q = refl
quiet_number s c (Began number) bytes q = absurd q
quiet_number s c (Ended number acknowledged) bytes q = absurd q
quiet_number s c (Underway number) bytes q = refl

quiet_begins_none : (deed : Deed) (n : ℕ) → IsQuiet deed → Some deed ≡ Some (Began n) → ⊥
quiet_begins_none deed n q e = let same : Began n ≡ deed = cc in subst IsQuiet (sym same) q

quiet_ends_none : (deed : Deed) (n : ℕ) (ok : Bool) → IsQuiet deed → Some deed ≡ Some (Ended n ok) → ⊥
quiet_ends_none deed n ok q e = let same : Ended n ok ≡ deed = cc in subst IsQuiet (sym same) q

-- ---- an entry of a call

-- the entry of a call, where things stand so, is none of a commit
pub plain : (s : Standing) (c : ℕ) (e : Entry) → IsCallEntry s c e → IsNoCommit e
plain s c e k = record {
  begins_none = λ n at. quiet_begins_none k.deed n k.quiet (sym k.is.deed_is ∙ at);
  ends_none = λ n ok at. quiet_ends_none k.deed n ok k.quiet (sym k.is.deed_is ∙ at);
}

-- it leaves the number and the commit under way
record IsLike (s t : Standing) : Type 0 where
  number : t.number ≡ s.number
  under_way : t.under_way ≡ s.under_way

like_behind : (b : Basis) (h : List Entry) (c : ℕ) (e : Entry) → IsCallEntry (standing b h) c e → IsLike (standing b h) (standing b (h ++ e ∷ []))
like_behind b h c e k =
    let there : standing b (h ++ e ∷ []) ≡ after_deed (standing b h) c (Some k.deed) e.brought = standing_more b h e ∙ after_of (standing b h) c k.deed e k.is in
    record {
      number = ap (λ (z : Standing). z.number) there ∙ quiet_number (standing b h) c k.deed e.brought k.quiet;
      under_way = ap (λ (z : Standing). z.under_way) there ∙ quiet_keeps (standing b h) c k.deed e.brought k.quiet;
    }

pub legal_behind : (b : Basis) (h : List Entry) (c : ℕ) (e : Entry) → IsLegal b h → IsCallEntry (standing b h) c e → IsLegal b (h ++ e ∷ [])
legal_behind b h c e l k = legal_more b h e l (fits_of (standing b h) c k.deed e k.is k.bytes k.fits)

module _ {D : Type 0} (g : Ghosts D) where
  file_behind : (b : Basis) (h : List Entry) (c : ℕ) (e : Entry) (f : FileView D) → IsStart b → IsLegal b h → IsCallEntry (standing b h) c e →
      IsFileOf g b (IsAllowed b h) (after b h) (standing b h).number (faulted_ends h) f → IsFileOf g b (IsAllowed b (h ++ e ∷ [])) (after b (h ++ e ∷ [])) (standing b (h ++ e ∷ [])).number (faulted_ends (h ++ e ∷ [])) f
  file_behind b h c e f start l k i =
      let no = plain (standing b h) c e k in
      record {
        shown = λ cut may. allowed_more b h cut e (λ m at. no.ends_none m true at) (i.shown cut may);
        newest = goes_on (newest_cut f.file).tables (after b h) (after b (h ++ e ∷ [])) i.newest (history_goes_on b h (e ∷ []) start (legal_behind b h c e l k));
        last = i.last ∙ sym (like_behind b h c e k).number;
        faults = subst (λ n. RoseBy n (faults_at_opening b) (g.fault_count f.device)) (sym (faulted_same h e (λ n at. no.ends_none n false at))) i.faults;
        loans = i.loans;
        bounds = i.bounds;
        shape = i.shape;
      }

  shelved_behind : (b : Basis) (h : List Entry) (c : ℕ) (e : Entry) (file : Option (FileView D)) → IsStart b → IsLegal b h → IsCallEntry (standing b h) c e → IsShelved g b h file → IsShelved g b (h ++ e ∷ []) file
  shelved_behind b h c e None start l k i = (i.0, (like_behind b h c e k).under_way ∙ i.1)
  shelved_behind b h c e (Some f) start l k i = ((like_behind b h c e k).under_way ∙ i.0, file_behind b h c e f start l k i.1)

  taken_more : (b : Basis) (h : List Entry) (e : Entry) → taken b (h ++ e ∷ []) ≡ length h + 1 + one_if_open (standing b (h ++ e ∷ [])).under_way
  taken_more b h e = ap (λ n. n + one_if_open (standing b (h ++ e ∷ [])).under_way) (length-append h (e ∷ []))

  pub hub_behind : (b : Basis) (h : List Entry) (c : ℕ) (e : Entry) (x y : Tables) (spare more acked last : ℕ) (file : Option (FileView D)) → IsHub g b h x spare acked last file → IsCallEntry (standing b h) c e →
      y ≡ after b (h ++ e ∷ []) → taken b h + 1 ≤ most_calls b → one_if_open (standing b h).under_way ≤ more → IsHub g b (h ++ e ∷ []) y more acked last file
  hub_behind b h c e x y spare more acked last file i k is room reserved =
      let like = like_behind b h c e k in
      let one : one_if_open (standing b (h ++ e ∷ [])).under_way ≡ one_if_open (standing b h).under_way = ap one_if_open like.under_way in
      record {
        start = i.start;
        few_calls = i.few_calls;
        legal = legal_behind b h c e i.legal k;
        tables = is;
        acked = i.acked ∙ sym (acked_more (age_of b) h e ∙ ap (acknowledged_by (last_acknowledged (age_of b) h)) k.is.deed_is ∙ quiet_acked (last_acknowledged (age_of b) h) k.deed k.quiet);
        last = i.last ∙ sym like.number;
        room = omega (arith, taken_more b h e, one);
        reserved = omega (arith, one);
        shelved = shelved_behind b h c e file i.start i.legal k i.shelved;
      }

  -- The hub with one word more: its entries are the old ones and the entry of that word.
  pub record IsFiled (b : Basis) (h : List Entry) (e : Entry) (y : Tables) (words : List ℕ) (spare acked last : ℕ) (file : Option (FileView D)) : Type 0 where
    pub entries : entries_in y words ≡ h ++ e ∷ []
    pub hub : IsHub g b (entries_in y words) y spare acked last file

  pub read_filed : (b : Basis) (x y : Tables) (words more : List ℕ) (e : Entry) (spare acked last : ℕ) (file : Option (FileView D)) → IsHub g b (entries_in x words ++ e ∷ []) y spare acked last file →
      more ≡ words ++ e.word ∷ [] → IsFiled b (entries_in x words) e y more spare acked last file
  read_filed b x y words more e spare acked last file i is =
      let h = entries_in x words in
      let same : entries_in y more ≡ h ++ e ∷ [] = ap (λ z. entries_in z more) i.tables ∙ ap (entries_in (after b (h ++ e ∷ []))) is ∙ reads_more b x words e i.legal in
      record { entries = same; hub = subst (λ z. IsHub g b z y spare acked last file) (sym same) i }

  -- the same value with more room
  pub more_room : (b : Basis) (h : List Entry) (x : Tables) (spare more acked last : ℕ) (file : Option (FileView D)) → spare ≤ more → IsHub g b h x spare acked last file → IsHub g b h x more acked last file
  more_room b h x spare more acked last file le i = record {
    start = i.start;
    few_calls = i.few_calls;
    legal = i.legal;
    tables = i.tables;
    acked = i.acked;
    last = i.last;
    room = i.room;
    reserved = omega (arith, i.reserved);
    shelved = i.shelved;
  }
