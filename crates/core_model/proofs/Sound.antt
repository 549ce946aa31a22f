-- What holds at every place of a legal history: the tables are within their limits, and numbers rise.
use Rattle.std.proofs.Common.{◌≡◌, ◌≤◌, ◌<◌, ◌^◌, ℕ, true, List, [], ◌∷◌, ◌++◌, Option, Some, None, refl, sym, ap, ◌∙◌, subst, arith}
use Rattle.std.proofs.lemmas.List.{append_assoc}
use Rattle.std.proofs.lemmas.Option.{same_Some}
use Rattle.turnstile.specs.declared.history.Entry.{Entry}
use Rattle.turnstile.specs.declared.history.Basis.{Basis}
use Rattle.turnstile.specs.Histories.{caller}
use Rattle.call_journal.specs.declared.deed.Deed.{Deed}
use Rattle.call_journal.specs.declared.deed.Deed.TheVariants.{Added, Asked, Counted, NotGiven, Full, Began, Ended, Underway}
use Rattle.call_journal.specs.Words.{IsDeed, deed_of, word_of}
use Rattle.call_journal.proofs.Decoding.{caller_of_word, deed_of_word, is_deed, small_word}
use Rattle.table_model.specs.Calls.{are_bytes}
use Rattle.core_model.specs.History.{DeedFits, Fits, IsLegal, IsStart, OpenCommit, Standing, after_deed, after_entries, after_entry, opening, standing}
use Rattle.core_model.proofs.Answered.{IsWithin, within_added, within_opened}
use Rattle.core_model.proofs.Growing.{standing_on}

-- the tables are within the limits of the basis, the last number has 32 bits, and a commit under way has it
pub record IsSound (b : Basis) (s : Standing) : Type 0 where
  pub within : IsWithin b s.tables
  pub number : s.number < 2 ^ 32
  pub newest : (k : OpenCommit) → s.under_way ≡ Some k → k.number ≡ s.number

sound_deed : (b : Basis) (s : Standing) (c : ℕ) (d : Option Deed) (bytes : List ℕ) → ((deed : Deed) → d ≡ Some deed → IsDeed deed) → DeedFits s c d bytes → IsSound b s → IsSound b (after_deed s c d bytes)
sound_deed b s c None bytes small f i = i
sound_deed b s c (Some (Added table at)) bytes small f i = record { within = within_added b s.tables table at bytes f i.within; number = i.number; newest = i.newest }
sound_deed b s c (Some (Asked table at)) bytes small f i = i
sound_deed b s c (Some Counted) bytes small f i = i
sound_deed b s c (Some (NotGiven index space table)) bytes small f i = i
sound_deed b s c (Some (Full length limit table)) bytes small f i = i
sound_deed b s c (Some (Began number)) bytes small f i = record { within = i.within; number = small (Began number) refl; newest = λ k e. ap (λ (z : OpenCommit). z.number) (sym (same_Some (record { caller = c; number = number }) k e)) }
sound_deed b s c (Some (Ended number acknowledged)) bytes small f i = record { within = i.within; number = i.number; newest = λ k e. absurd (cc) }
sound_deed b s c (Some (Underway number)) bytes small f i = i

rising_deed : (s : Standing) (c : ℕ) (d : Option Deed) (bytes : List ℕ) → DeedFits s c d bytes → s.number ≤ (after_deed s c d bytes).number
rising_deed s c None bytes f = omega arith
rising_deed s c (Some (Added table at)) bytes f = omega arith
rising_deed s c (Some (Asked table at)) bytes f = omega arith
rising_deed s c (Some Counted) bytes f = omega arith
rising_deed s c (Some (NotGiven index space table)) bytes f = omega arith
rising_deed s c (Some (Full length limit table)) bytes f = omega arith
rising_deed s c (Some (Began number)) bytes f = omega (arith, f.2)
rising_deed s c (Some (Ended number acknowledged)) bytes f = omega arith
rising_deed s c (Some (Underway number)) bytes f = omega arith

-- each of these entries fits where it stands, from how things stand before them
pub record EachFits (s : Standing) (entries : List Entry) : Type 0 where
  pub fits : (before : List Entry) (e : Entry) (rest : List Entry) → entries ≡ before ++ e ∷ rest → Fits (after_entries s before) e

pub each_later : (s : Standing) (e : Entry) (entries : List Entry) → EachFits s (e ∷ entries) → EachFits (after_entry s e) entries
each_later s e entries f = record { fits = λ before d rest eq. f.fits (e ∷ before) d rest (ap (λ z. e ∷ z) eq) }

pub sound_entries : (b : Basis) (s : Standing) (entries : List Entry) → EachFits s entries → IsSound b s → IsSound b (after_entries s entries)
sound_entries b s [] f i = i
sound_entries b s (e ∷ entries) f i =
    sound_entries b (after_entry s e) entries (each_later s e entries f) (sound_deed b s (caller e) (deed_of e.word) e.brought (is_deed e.word) (f.fits [] e entries refl).deed i)

pub rising_entries : (s : Standing) (entries : List Entry) → EachFits s entries → s.number ≤ (after_entries s entries).number
rising_entries s [] f = omega arith
rising_entries s (e ∷ entries) f =
    let one : s.number ≤ (after_entry s e).number = rising_deed s (caller e) (deed_of e.word) e.brought (f.fits [] e entries refl).deed in
    let rest : (after_entry s e).number ≤ (after_entries (after_entry s e) entries).number = rising_entries (after_entry s e) entries (each_later s e entries f) in
    omega arith

pub sound_opening : (b : Basis) → IsStart b → IsSound b (opening b)
sound_opening b s = record { within = within_opened b s; number = s.age; newest = λ k e. absurd (cc) }

-- behind a legal history
pub sound_standing : (b : Basis) (h : List Entry) → IsStart b → IsLegal b h → IsSound b (standing b h)
sound_standing b h s l = sound_entries b (opening b) h (record { fits = l.fits }) (sound_opening b s)

-- the entries behind a part of a legal history fit where they stand
pub fits_on : (b : Basis) (h more : List Entry) → IsLegal b (h ++ more) → EachFits (standing b h) more
fits_on b h more l = record { fits = λ before e rest eq. subst (λ z. Fits z e) (standing_on b h before) (l.fits (h ++ before) e rest (ap (λ z. h ++ z) eq ∙ sym (append_assoc h before (e ∷ rest)))) }

-- the last number is not smaller behind more entries
pub rising : (b : Basis) (h more : List Entry) → IsLegal b (h ++ more) → (standing b h).number ≤ (standing b (h ++ more)).number
rising b h more l = let r = rising_entries (standing b h) more (fits_on b h more l) in rw standing_on r

-- the entry of a caller's deed
pub record IsOf (c : ℕ) (deed : Deed) (e : Entry) : Type 0 where
  pub caller_is : caller e ≡ c
  pub deed_is : deed_of e.word ≡ Some deed
  pub small : e.word < 2 ^ 64

pub is_of : (c : ℕ) (deed : Deed) (bytes : List ℕ) → c < 256 → IsDeed deed → IsOf c deed (record { word = word_of c deed; brought = bytes })
is_of c deed bytes few small = record { caller_is = caller_of_word c deed small; deed_is = deed_of_word c deed small; small = small_word c deed few small }

-- it fits where its deed does, and leaves what its deed leaves
pub fits_of : (s : Standing) (c : ℕ) (deed : Deed) (e : Entry) → IsOf c deed e → are_bytes e.brought ≡ true → DeedFits s c (Some deed) e.brought → Fits s e
fits_of s c deed e o bytes f = record { word = o.small; bytes = bytes; deed = rw (o.caller_is, o.deed_is) f }

pub after_of : (s : Standing) (c : ℕ) (deed : Deed) (e : Entry) → IsOf c deed e → after_entry s e ≡ after_deed s c (Some deed) e.brought
after_of s c deed e o = rw (o.caller_is, o.deed_is) refl
