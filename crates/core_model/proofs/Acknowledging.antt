-- The last acknowledged commit of a legal history, and the allowed cuts.
use Rattle.std.proofs.Common.{◌≡◌, ◌≤◌, ◌+◌, ℕ, true, List, [], ◌∷◌, ◌++◌, Option, Some, None, ◌⊎◌, inl, inr, ⊎_elim, refl, sym, ap, ◌∙◌, subst, arith}
use Rattle.std.specs.Prelude.{All}
use Rattle.std.proofs.lemmas.List.{append_assoc}
use Rattle.std.proofs.lemmas.List.Elements.{All-append, All-cons, All-head, All-nil, All-tail}
use Rattle.std.proofs.lemmas.Option.{same_Some}
use Rattle.turnstile.specs.declared.history.Entry.{Entry}
use Rattle.turnstile.specs.declared.history.Basis.{Basis}
use Rattle.turnstile.specs.Histories.{caller}
use Rattle.call_journal.specs.declared.deed.Deed.{Deed}
use Rattle.call_journal.specs.declared.deed.Deed.TheVariants.{Added, Asked, Counted, NotGiven, Full, Began, Ended, Underway}
use Rattle.call_journal.specs.Words.{deed_of}
use Rattle.core_model.specs.History.{IsLegal, IsStart, OpenCommit, Standing, after_deed, after_entries, after_entry, opening, standing}
use Rattle.core_model.specs.Cuts.{AcknowledgesNoOther, IsAllowed, cut_at}
use Rattle.table_model.specs.Cut.{Cut}
use Rattle.core_model.specs.Law.{IsAcknowledged}
use Rattle.core_model.proofs.Allowed.{IsNoEnd, IsNoOther}
use Rattle.core_model.proofs.Growing.{legal_before, standing_more}
use Rattle.core_model.proofs.Replying.{fits_there}
use Rattle.core_model.proofs.Sound.{rising, sound_standing}

-- where the commit under way began
record Beginning (entries : List Entry) (k : OpenCommit) : Type 0 where
  before : List Entry
  began : Entry
  rest : List Entry
  there : entries ≡ before ++ began ∷ rest
  deed : deed_of began.word ≡ Some (Began k.number)

-- the commit was under way before the entries, or began in them
abbrev IsShown : Standing → List Entry → OpenCommit → Type 0
IsShown s entries k = (s.under_way ≡ Some k) ⊎ Beginning entries k

shown_by : (s : Standing) (e : Entry) (entries : List Entry) (k : OpenCommit) (deed : Option Deed) → deed_of e.word ≡ deed → (after_deed s (caller e) deed e.brought).under_way ≡ Some k → IsShown s (e ∷ entries) k
shown_by s e entries k None is shown = inl shown
shown_by s e entries k (Some (Added table at)) is shown = inl shown
shown_by s e entries k (Some (Asked table at)) is shown = inl shown
shown_by s e entries k (Some Counted) is shown = inl shown
shown_by s e entries k (Some (NotGiven index space table)) is shown = inl shown
shown_by s e entries k (Some (Full size limit table)) is shown = inl shown
shown_by s e entries k (Some (Began number)) is shown =
    let same : number ≡ k.number = ap (λ (z : OpenCommit). z.number) (same_Some (record { caller = caller e; number = number }) k shown) in
    inr (record { before = []; began = e; rest = entries; there = refl; deed = is ∙ ap (λ n. Some (Began n)) same })
shown_by s e entries k (Some (Ended number acknowledged)) is shown = absurd (cc)
shown_by s e entries k (Some (Underway number)) is shown = inl shown

is_shown : (s : Standing) (entries : List Entry) (k : OpenCommit) → (after_entries s entries).under_way ≡ Some k → IsShown s entries k
is_shown s [] k shown = inl shown
is_shown s (e ∷ entries) k shown =
    ⊎_elim (λ (p : (after_entry s e).under_way ≡ Some k). shown_by s e entries k (deed_of e.word) refl p)
    (λ (p : Beginning entries k). inr (record { before = e ∷ p.before; began = p.began; rest = p.rest; there = ap (λ z. e ∷ z) p.there; deed = p.deed })) (is_shown (after_entry s e) entries k shown)

-- the commit under way began in the history
beginning : (b : Basis) (h : List Entry) (k : OpenCommit) → (standing b h).under_way ≡ Some k → Beginning h k
beginning b h k shown = ⊎_elim (λ (p : None ≡ Some k). absurd (cc)) (λ (p : Beginning h k). p) (is_shown (opening b) h k shown)

-- an acknowledged commit began in the history
pub acknowledged_began : (b : Basis) (before rest : List Entry) (e : Entry) (n : ℕ) → IsLegal b (before ++ e ∷ rest) → deed_of e.word ≡ Some (Ended n true) → (front : List Entry) × IsAcknowledged (before ++ e ∷ rest) front n
acknowledged_began b before rest e n l is =
    let k : OpenCommit = record { caller = caller e; number = n } in
    let g : Beginning before k = beginning b before k (fits_there b before rest e (Some (Ended n true)) l is).1 in (
      g.before,
      record {
        began = g.began;
        between = g.rest;
        ended = e;
        rest = rest;
        there = ap (λ z. z ++ e ∷ rest) g.there ∙ append_assoc g.before (g.began ∷ g.rest) (e ∷ rest);
        begins = g.deed;
        ends = is;
      },
    )

-- Where two entries stand in one list: the first in front of the second, at its place, or behind it.
abbrev pub AreTwo : List Entry → Entry → List Entry → List Entry → Entry → List Entry → Type 0
AreTwo before e rest front d back =
    ((mid : List Entry) × (front ≡ before ++ e ∷ mid)) ⊎ (((before ≡ front) × (e ≡ d)) ⊎ ((mid : List Entry) × (before ≡ front ++ d ∷ mid) × (back ≡ mid ++ e ∷ rest)))

pub are_two : (before rest front back : List Entry) (e d : Entry) → before ++ e ∷ rest ≡ front ++ d ∷ back → AreTwo before e rest front d back
are_two [] rest [] back e d eq = inr (inl (refl, cc))
are_two [] rest (x ∷ front) back e d eq = inl (front, cc)
are_two (x ∷ before) rest [] back e d eq = inr (inr (before, cc, cc))
are_two (x ∷ before) rest (y ∷ front) back e d eq =
    let same : x ≡ y = cc in
    let tails : before ++ e ∷ rest ≡ front ++ d ∷ back = cc in
    ⊎_elim (λ (p : (mid : List Entry) × (front ≡ before ++ e ∷ mid)). let q : front ≡ before ++ e ∷ p.0 = p.1 in inl (p.0, cc))
    (λ p. inr (⊎_elim (λ (q : (before ≡ front) × (e ≡ d)). let u : before ≡ front = q.0 in inl (cc, q.1))
    (λ (q : (mid : List Entry) × (before ≡ front ++ d ∷ mid) × (back ≡ mid ++ e ∷ rest)). let u : before ≡ front ++ d ∷ q.0 = q.1 in inr (q.0, cc, q.2)) p)) (are_two before rest front back e d tails)

all_at : (P : Entry → Type 0) (before rest : List Entry) (e : Entry) → All P (before ++ e ∷ rest) → P e
all_at P [] rest e a = All-head P e rest a
all_at P (x ∷ before) rest e a = all_at P before rest e (All-tail P x (before ++ e ∷ rest) a)

-- an acknowledged commit has the number that stands at its end
end_number : (b : Basis) (before rest : List Entry) (e : Entry) (n : ℕ) → IsStart b → IsLegal b (before ++ e ∷ rest) → deed_of e.word ≡ Some (Ended n true) → n ≡ (standing b before).number
end_number b before rest e n start l is =
    let short : IsLegal b before = legal_before b before (before ++ e ∷ rest) l (record { rest = e ∷ rest; whole = refl }) in
    (sound_standing b before start short).newest (record { caller = caller e; number = n }) (fits_there b before rest e (Some (Ended n true)) l is).1

-- no allowed cut has a smaller number
newest_at : (b : Basis) (before rest : List Entry) (e : Entry) (n : ℕ) (c : Cut) → IsStart b → IsLegal b (before ++ e ∷ rest) → deed_of e.word ≡ Some (Ended n true) → IsAllowed b (before ++ e ∷ rest) c → n ≤ c.number
newest_at b before rest e n c start l is (inl p) = absurd (all_at IsNoEnd before rest e p.1 n is)
newest_at b before rest e n c start l is (inr p) = ⊎_elim in_front (⊎_elim same_place behind) (are_two before rest p.before p.rest e p.began p.there) where
  in_front : (mid : List Entry) × (p.before ≡ before ++ e ∷ mid) → n ≤ c.number
  in_front m =
      let legal : IsLegal b (p.before ++ p.began ∷ p.rest) = subst (IsLegal b) p.there l in
      let newest : n ≡ (standing b before).number = end_number b before rest e n start l is in
      let front : IsLegal b (before ++ e ∷ m.0) = legal_before b (before ++ e ∷ m.0) (p.before ++ p.began ∷ p.rest) legal (record { rest = p.began ∷ p.rest; whole = ap (λ z. z ++ p.began ∷ p.rest) m.1 }) in
      let higher : (standing b before).number ≤ (standing b (before ++ e ∷ m.0)).number = rising b before (e ∷ m.0) front in
      let there : (standing b p.before).number ≡ (standing b (before ++ e ∷ m.0)).number = ap (λ z. (standing b z).number) m.1 in
      let next : c.number ≡ (standing b p.before).number + 1 = (fits_there b p.before p.rest p.began (Some (Began c.number)) legal p.deed).2 in
      omega arith

  same_place : (before ≡ p.before) × (e ≡ p.began) → n ≤ c.number
  same_place same = let d : Some (Ended n true) ≡ Some (Began c.number) = sym is ∙ ap (λ (z : Entry). deed_of z.word) same.1 ∙ p.deed in absurd (cc)

  behind : (mid : List Entry) × (before ≡ p.before ++ p.began ∷ mid) × (p.rest ≡ mid ++ e ∷ rest) → n ≤ c.number
  behind m = let same : n ≡ c.number = all_at (IsNoOther c.number) m.0 rest e (subst (All (IsNoOther c.number)) m.2 p.newest) n is in omega arith

pub acknowledged_newest : (b : Basis) (h front : List Entry) (n : ℕ) (k : IsAcknowledged h front n) (c : Cut) → IsStart b → IsLegal b h → IsAllowed b h c → n ≤ c.number
acknowledged_newest b h front n k c start l allowed =
    let at : h ≡ (front ++ k.began ∷ k.between) ++ k.ended ∷ k.rest = k.there ∙ sym (append_assoc front (k.began ∷ k.between) (k.ended ∷ k.rest)) in
    newest_at b (front ++ k.began ∷ k.between) k.rest k.ended n c start (subst (IsLegal b) at l) k.ends (subst (λ z. IsAllowed b z c) at allowed)

all_places : (P : Entry → Type 0) (xs : List Entry) → ((before : List Entry) (e : Entry) (rest : List Entry) → xs ≡ before ++ e ∷ rest → P e) → All P xs
all_places P [] f = All-nil P
all_places P (x ∷ xs) f = All-cons P x xs (f [] x xs refl) (all_places P xs (λ before e rest at. f (x ∷ before) e rest (ap (λ z. x ∷ z) at)))

-- the last number is not smaller further on in a legal history
rising_in : (b : Basis) (h short more back : List Entry) → IsLegal b h → h ≡ (short ++ more) ++ back → (standing b short).number ≤ (standing b (short ++ more)).number
rising_in b h short more back l at = rising b short more (legal_before b (short ++ more) h l (record { rest = back; whole = at }))

-- behind a beginning the last number is that of the commit
pub number_begun : (b : Basis) (front : List Entry) (e : Entry) (n : ℕ) → deed_of e.word ≡ Some (Began n) → (standing b (front ++ e ∷ [])).number ≡ n
number_begun b front e n is = ap (λ (z : Standing). z.number) (standing_more b front e) ∙ ap (λ o. (after_deed (standing b front) (caller e) o e.brought).number) is

-- between the beginning of a commit and its end no other is acknowledged
quiet_between : (b : Basis) (h front : List Entry) (n : ℕ) → IsStart b → IsLegal b h → (k : IsAcknowledged h front n) → AcknowledgesNoOther n k.between
quiet_between b h front n start l k = all_places (IsNoOther n) k.between (λ before e rest at m ack. go before e rest at m ack) where
  tail : List Entry
  tail = k.ended ∷ k.rest

  go : (before : List Entry) (e : Entry) (rest : List Entry) → k.between ≡ before ++ e ∷ rest → (m : ℕ) → deed_of e.word ≡ Some (Ended m true) → m ≡ n
  go before e rest at m ack =
      let here : List Entry = front ++ k.began ∷ before in
      let there : h ≡ here ++ e ∷ (rest ++ tail) = k.there ∙ ap (λ z. front ++ k.began ∷ z) (ap (λ z. z ++ tail) at ∙ append_assoc before (e ∷ rest) tail) ∙ sym (append_assoc front (k.began ∷ before) (e ∷ (rest ++ tail))) in
      let last : h ≡ (here ++ e ∷ rest) ++ tail = there ∙ sym (append_assoc here (e ∷ rest) tail) in
      let first : h ≡ ((front ++ k.began ∷ []) ++ before) ++ e ∷ (rest ++ tail) = there ∙ ap (λ z. z ++ e ∷ (rest ++ tail)) (sym (append_assoc front (k.began ∷ []) before)) in
      let own : m ≡ (standing b here).number = end_number b here (rest ++ tail) e m start (subst (IsLegal b) there l) ack in
      let end : n ≡ (standing b (here ++ e ∷ rest)).number = end_number b (here ++ e ∷ rest) k.rest k.ended n start (subst (IsLegal b) last l) k.ends in
      let low : (standing b here).number ≤ (standing b (here ++ e ∷ rest)).number = rising_in b h here (e ∷ rest) tail l last in
      let begun : (standing b (front ++ k.began ∷ [])).number ≡ n = number_begun b front k.began n k.begins in
      let high : (standing b (front ++ k.began ∷ [])).number ≤ (standing b ((front ++ k.began ∷ []) ++ before)).number = rising_in b h (front ++ k.began ∷ []) before (e ∷ (rest ++ tail)) l first in
      let same : (standing b ((front ++ k.began ∷ []) ++ before)).number ≡ (standing b here).number = ap (λ z. (standing b z).number) (append_assoc front (k.began ∷ []) before) in
      omega arith

-- the cut of an acknowledged commit is allowed until another is acknowledged
pub acknowledged_allowed : (b : Basis) (h front : List Entry) (n : ℕ) (k : IsAcknowledged h front n) → IsStart b → IsLegal b h → AcknowledgesNoOther n k.rest → IsAllowed b h (cut_at b front n)
acknowledged_allowed b h front n k start l last =
    let own : IsNoOther n k.ended = λ m ack. let d : Some (Ended n true) ≡ Some (Ended m true) = sym k.ends ∙ ack in cc in
    inr (record {
      before = front;
      began = k.began;
      rest = k.between ++ k.ended ∷ k.rest;
      there = k.there;
      deed = k.begins;
      tables = refl;
      newest = All-append (IsNoOther n) k.between (k.ended ∷ k.rest) (quiet_between b h front n start l k) (All-cons (IsNoOther n) k.ended k.rest own last);
    })
