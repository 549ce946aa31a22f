-- The entries of a legal history are read off the tables behind it.
use Rattle.std.proofs.Common.{◌≡◌, ℕ, List, [], ◌∷◌, ◌++◌, Option, Some, None, refl, sym, ap, ◌∙◌, subst}
use Rattle.std.specs.Option.{unwrap_or}
use Rattle.turnstile.specs.declared.history.Entry.{Entry}
use Rattle.turnstile.specs.declared.history.Basis.{Basis}
use Rattle.call_journal.specs.declared.deed.Deed.{Deed}
use Rattle.call_journal.specs.declared.deed.Deed.TheVariants.{Added, Asked, Counted, NotGiven, Full, Began, Ended, Underway}
use Rattle.call_journal.specs.Words.{deed_of}
use Rattle.table_model.specs.Tables.{Tables}
use Rattle.core_model.specs.History.{IsLegal, after}
use Rattle.core_model.specs.Replay.{words_of}
use Rattle.core_model.proofs.Replying.{fits_there, stands}
use Rattle.hub.specs.Stories.{brought_by, entries_in, entry_read}

-- what an entry brought is what its deed reads
reads_one : (b : Basis) (before rest : List Entry) (e : Entry) (deed : Option Deed) → IsLegal b (before ++ e ∷ rest) → deed_of e.word ≡ deed → brought_by (after b (before ++ e ∷ rest)) deed ≡ e.brought
reads_one b before rest e None l is = absurd (fits_there b before rest e None l is)
reads_one b before rest e (Some (Added table at)) l is = ap (λ o. unwrap_or o []) (stands b before rest e table at l is rest)
reads_one b before rest e (Some (Asked table at)) l is = sym (fits_there b before rest e (Some (Asked table at)) l is)
reads_one b before rest e (Some Counted) l is = sym (fits_there b before rest e (Some Counted) l is)
reads_one b before rest e (Some (NotGiven index space table)) l is = sym (fits_there b before rest e (Some (NotGiven index space table)) l is).0
reads_one b before rest e (Some (Full size limit table)) l is = sym (fits_there b before rest e (Some (Full size limit table)) l is).0
reads_one b before rest e (Some (Began number)) l is = sym (fits_there b before rest e (Some (Began number)) l is).0
reads_one b before rest e (Some (Ended number acknowledged)) l is = sym (fits_there b before rest e (Some (Ended number acknowledged)) l is).0
reads_one b before rest e (Some (Underway number)) l is = sym (fits_there b before rest e (Some (Underway number)) l is).0

entry_is : (x : Tables) (e : Entry) → brought_by x (deed_of e.word) ≡ e.brought → entry_read x e.word ≡ e
entry_is x e is = ap (λ (z : List ℕ). record { word = e.word; brought = z }) is

reads_all : (x : Tables) (h : List Entry) → ((before : List Entry) (e : Entry) (rest : List Entry) → h ≡ before ++ e ∷ rest → entry_read x e.word ≡ e) → entries_in x (words_of h) ≡ h
reads_all x [] f = refl
reads_all x (e ∷ h) f =
    let head : entry_read x e.word ≡ e = f [] e h refl in
    let tail : entries_in x (words_of h) ≡ h = reads_all x h (λ before d rest eq. f (e ∷ before) d rest (ap (λ z. e ∷ z) eq)) in
    ap (λ z. z ∷ entries_in x (words_of h)) head ∙ ap (λ z. e ∷ z) tail

pub reads_back : (b : Basis) (h : List Entry) → IsLegal b h → entries_in (after b h) (words_of h) ≡ h
reads_back b h l =
    reads_all (after b h) h
    (λ before e rest eq. entry_is (after b h) e (subst (λ z. brought_by (after b z) (deed_of e.word) ≡ e.brought) (sym eq) (reads_one b before rest e (deed_of e.word) (subst (IsLegal b) eq l) refl)))

pub words_read : (x : Tables) (words : List ℕ) → words_of (entries_in x words) ≡ words
words_read x [] = refl
words_read x (w ∷ words) = ap (λ z. w ∷ z) (words_read x words)

words_more : (h : List Entry) (e : Entry) → words_of (h ++ e ∷ []) ≡ words_of h ++ e.word ∷ []
words_more [] e = refl
words_more (d ∷ h) e = ap (λ z. d.word ∷ z) (words_more h e)

-- the entries with one word more, off the tables behind its entry
pub reads_more : (b : Basis) (x : Tables) (words : List ℕ) (e : Entry) → IsLegal b (entries_in x words ++ e ∷ []) → entries_in (after b (entries_in x words ++ e ∷ [])) (words ++ e.word ∷ []) ≡ entries_in x words ++ e ∷ []
reads_more b x words e l =
    let h = entries_in x words in
    let same : words_of (h ++ e ∷ []) ≡ words ++ e.word ∷ [] = words_more h e ∙ ap (λ z. z ++ e.word ∷ []) (words_read x words) in
    subst (λ w. entries_in (after b (h ++ e ∷ [])) w ≡ h ++ e ∷ []) same (reads_back b (h ++ e ∷ []) l)
