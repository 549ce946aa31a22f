-- The calls of one pass in a history: what holds of them, and the commit that is under way.
use Rattle.std.proofs.Common.{◌≡◌, ◌⊎◌, ◌<◌, ◌^◌, ◌==◌, ℕ, Bool, true, false, cond, List, [], ◌∷◌, ◌++◌, Option, Some, None, refl, sym, ap, ◌∙◌, subst, arith, inl, inr, ⊎_elim}
use Rattle.std.specs.Prelude.{All}
use Rattle.std.proofs.lemmas.Bool.{eq-eqb}
use Rattle.std.proofs.lemmas.Option.{same_Some}
use Rattle.std.proofs.lemmas.List.Elements.{All-append, All-cons, All-head, All-nil, All-tail}
use Rattle.turnstile.specs.declared.history.Entry.{Entry}
use Rattle.turnstile.specs.declared.history.Basis.{Basis}
use Rattle.turnstile.specs.Histories.{Begins, caller, calls_by}
use Rattle.call_journal.specs.declared.deed.Deed.{Deed}
use Rattle.call_journal.specs.declared.deed.Deed.TheVariants.{Added, Asked, Counted, NotGiven, Full, Began, Ended, Underway}
use Rattle.call_journal.specs.Words.{deed_of}
use Rattle.call_journal.proofs.Decoding.{is_deed}
use Rattle.core_model.specs.Entries.{entry_of}
use Rattle.core_model.specs.declared.commit.OpenCommit.{OpenCommit}
use Rattle.core_model.specs.History.{DeedFits, IsLegal, IsStart, Standing, after_deed, after_entries, after_entry, opening, standing}
use Rattle.core_model.specs.Legal.{AreCalls, IsNoCommit}
use Rattle.core_model.proofs.Growing.{legal_before, standing_more, standing_on}
use Rattle.core_model.proofs.Replying.{fits_there}
use Rattle.core_model.proofs.Sound.{EachFits, IsOf, after_of, each_later, fits_on, is_of}
use Rattle.hub.specs.Calls.{IsBeginning, next_number}
use Rattle.hub.specs.Ends.{AreEnded, IsNoBeginning}
use Rattle.hub.specs.Kept.{IsNoEnd, IsOwnOpen, IsStillOpen}
use Rattle.hub.specs.Stories.{Story}
use Rattle.hub.proofs.Beginning.{unended_next}

-- ---- the calls of a pass

-- what holds of all entries holds of those of one number
all_of : (P : Entry → Type 0) (c : ℕ) (h : List Entry) → All P h → All P (calls_by c h)
all_of P c [] a = All-nil P
all_of P c (e ∷ h) a = go (caller e == c) (All-head P e h a) (all_of P c h (All-tail P e h a)) where
  go : (t : Bool) → P e → All P (calls_by c h) → All P (cond t (e ∷ calls_by c h) (calls_by c h))
  go true here rest = All-cons P e (calls_by c h) here rest
  go false here rest = rest

-- it holds of the entry, if that is one of this number
abbrev IfOwn : (Entry → Type 0) → ℕ → Entry → Type 0
IfOwn P c e = caller e ≡ c → P e

-- what holds of those of one number
own_in : (P : Entry → Type 0) (c : ℕ) (h : List Entry) → All P (calls_by c h) → All (IfOwn P c) h
own_in P c [] a = All-nil (IfOwn P c)
own_in P c (e ∷ h) a = go (caller e == c) refl (own_in P c h) a where
  go : (t : Bool) → (caller e == c) ≡ t → (All P (calls_by c h) → All (IfOwn P c) h) → All P (cond t (e ∷ calls_by c h) (calls_by c h)) → All (IfOwn P c) (e ∷ h)
  go true is on a = All-cons (IfOwn P c) e h (λ own. All-head P e (calls_by c h) a) (on (All-tail P e (calls_by c h) a))
  go false is on a = All-cons (IfOwn P c) e h (λ own. let yes : (caller e == c) ≡ true = eq-eqb (caller e) c own in absurd (cc)) (on a)

all_behind : (P : Entry → Type 0) (front rest : List Entry) → All P (front ++ rest) → All P rest
all_behind P [] rest a = a
all_behind P (x ∷ front) rest a = all_behind P front rest (All-tail P x (front ++ rest) a)

-- ---- a pass's own commit

pub own_open : (b : Basis) (old new : Story) (c : ℕ) (kept mine : List Entry) → IsBeginning old new c → kept ≡ new.entries → mine ≡ calls_by c new.entries → IsOwnOpen c kept mine
own_open b old new c kept mine begins same own = record {
  before = old.entries;
  number = next_number old.basis old.entries;
  whole = same ∙ begins.filed.entries;
  small = omega (arith, begins.may.number);
  unended = subst (All (IsNoEnd (next_number old.basis old.entries))) (sym own) (all_of (IsNoEnd (next_number old.basis old.entries)) c new.entries begins.unended);
}

-- an entry that fits while a commit of a pass is under way, and is no end of it
record IsBetween (s : Standing) (k : OpenCommit) (e : Entry) (deed : Option Deed) : Type 0 where
  no_commit : IsNoCommit e
  under_way : (after_deed s (caller e) deed e.brought).under_way ≡ Some k

is_between : (s : Standing) (k : OpenCommit) (e : Entry) (deed : Option Deed) → deed_of e.word ≡ deed → ((n : ℕ) → deed ≡ Some (Began n) → ⊥) → ((n : ℕ) (ok : Bool) → deed ≡ Some (Ended n ok) → ⊥) →
    (after_deed s (caller e) deed e.brought).under_way ≡ Some k → IsBetween s k e deed
is_between s k e deed is begins ends shown = record { no_commit = record { begins_none = λ n at. begins n (sym is ∙ at); ends_none = λ n ok at. ends n ok (sym is ∙ at) }; under_way = shown }

between : (s : Standing) (k : OpenCommit) (e : Entry) (deed : Option Deed) → deed_of e.word ≡ deed → s.under_way ≡ Some k → DeedFits s (caller e) deed e.brought → IfOwn (IsNoEnd k.number) k.caller e → IsBetween s k e deed
between s k e None is shown f unended = absurd f
between s k e (Some (Added table at)) is shown f unended = is_between s k e (Some (Added table at)) is (λ n x. cc) (λ n ok x. cc) shown
between s k e (Some (Asked table at)) is shown f unended = is_between s k e (Some (Asked table at)) is (λ n x. cc) (λ n ok x. cc) shown
between s k e (Some Counted) is shown f unended = is_between s k e (Some Counted) is (λ n x. cc) (λ n ok x. cc) shown
between s k e (Some (NotGiven index space table)) is shown f unended = is_between s k e (Some (NotGiven index space table)) is (λ n x. cc) (λ n ok x. cc) shown
between s k e (Some (Full size limit table)) is shown f unended = is_between s k e (Some (Full size limit table)) is (λ n x. cc) (λ n ok x. cc) shown
between s k e (Some (Began number)) is shown f unended = let none : None ≡ Some k = sym f.1 ∙ shown in absurd (cc)
between s k e (Some (Ended number acknowledged)) is shown f unended =
    let same : k ≡ record { caller = caller e; number = number } = same_Some k (record { caller = caller e; number = number }) (sym shown ∙ f.1) in
    absurd (unended (sym (ap (λ (z : OpenCommit). z.caller) same)) acknowledged (is ∙ ap (λ (z : OpenCommit). Some (Ended z.number acknowledged)) (sym same)))
between s k e (Some (Underway number)) is shown f unended = is_between s k e (Some (Underway number)) is (λ n x. cc) (λ n ok x. cc) shown

walk : (s : Standing) (k : OpenCommit) (entries : List Entry) → EachFits s entries → All (IfOwn (IsNoEnd k.number) k.caller) entries → s.under_way ≡ Some k → AreCalls entries × ((after_entries s entries).under_way ≡ Some k)
walk s k [] f a shown = (All-nil IsNoCommit, shown)
walk s k (e ∷ entries) f a shown =
    let one = between s k e (deed_of e.word) refl shown (f.fits [] e entries refl).deed (All-head (IfOwn (IsNoEnd k.number) k.caller) e entries a) in
    let rest = walk (after_entry s e) k entries (each_later s e entries f) (All-tail (IfOwn (IsNoEnd k.number) k.caller) e entries a) one.under_way in
    (All-cons IsNoCommit e entries one.no_commit rest.0, rest.1)

pub still_open : (b : Basis) (c : ℕ) (kept seen mine : List Entry) → c < 256 → IsLegal b seen → Begins kept seen → IsOwnOpen c kept mine → mine ≡ calls_by c seen → IsStillOpen b c kept seen
still_open b c kept seen mine few l begins own is =
    let k : OpenCommit = record { caller = c; number = own.number } in
    let e : Entry = entry_of c (Began own.number) [] in
    let o : IsOf c (Began own.number) e = is_of c (Began own.number) [] few own.small in
    let there : standing b kept ≡ after_deed (standing b own.before) c (Some (Began own.number)) [] = ap (standing b) own.whole ∙ standing_more b own.before e ∙ after_of (standing b own.before) c (Began own.number) e o in
    let shown : (standing b kept).under_way ≡ Some k = ap (λ (z : Standing). z.under_way) there in
    let number : (standing b kept).number ≡ own.number = ap (λ (z : Standing). z.number) there in
    let P : Entry → Type 0 = IsNoEnd own.number in
    let unended : All (IfOwn P c) (kept ++ begins.rest) = own_in P c (kept ++ begins.rest) (subst (λ z. All P (calls_by c z)) begins.whole (subst (All P) is own.unended)) in
    let both = walk (standing b kept) k begins.rest (fits_on b kept begins.rest (subst (IsLegal b) begins.whole l)) (all_behind (IfOwn P c) kept begins.rest unended) shown in
    record {
      rest = begins.rest;
      whole = begins.whole;
      calls = both.0;
      under_way = ap (λ z. (standing b z).under_way) begins.whole ∙ ap (λ (z : Standing). z.under_way) (standing_on b kept begins.rest) ∙ both.1 ∙ ap (λ (m : ℕ). Some (record { caller = c; number = m })) (sym number);
    }

-- ---- the commit under way, where each has ended

-- where a commit began, with calls behind it
record IsOpenIn (entries : List Entry) (k : OpenCommit) : Type 0 where
  before : List Entry
  began : Entry
  rest : List Entry
  there : entries ≡ before ++ began ∷ rest
  own : caller began ≡ k.caller
  deed : deed_of began.word ≡ Some (Began k.number)
  calls : AreCalls rest

-- the commit was under way before the entries, which are calls, or began in them
abbrev IsShown : Standing → List Entry → OpenCommit → Type 0
IsShown s entries k = ((s.under_way ≡ Some k) × AreCalls entries) ⊎ IsOpenIn entries k

a_call : (e : Entry) (entries : List Entry) (deed : Option Deed) → deed_of e.word ≡ deed → ((n : ℕ) → deed ≡ Some (Began n) → ⊥) → ((n : ℕ) (ok : Bool) → deed ≡ Some (Ended n ok) → ⊥) → AreCalls entries → AreCalls (e ∷ entries)
a_call e entries deed is begins ends calls = All-cons IsNoCommit e entries (record { begins_none = λ n at. begins n (sym is ∙ at); ends_none = λ n ok at. ends n ok (sym is ∙ at) }) calls

shown_by : (s : Standing) (e : Entry) (entries : List Entry) (k : OpenCommit) (deed : Option Deed) → deed_of e.word ≡ deed → DeedFits s (caller e) deed e.brought → (after_deed s (caller e) deed e.brought).under_way ≡ Some k → AreCalls entries → IsShown s (e ∷ entries) k
shown_by s e entries k None is f shown calls = absurd f
shown_by s e entries k (Some (Added table at)) is f shown calls = inl (shown, a_call e entries (Some (Added table at)) is (λ n x. cc) (λ n ok x. cc) calls)
shown_by s e entries k (Some (Asked table at)) is f shown calls = inl (shown, a_call e entries (Some (Asked table at)) is (λ n x. cc) (λ n ok x. cc) calls)
shown_by s e entries k (Some Counted) is f shown calls = inl (shown, a_call e entries (Some Counted) is (λ n x. cc) (λ n ok x. cc) calls)
shown_by s e entries k (Some (NotGiven index space table)) is f shown calls = inl (shown, a_call e entries (Some (NotGiven index space table)) is (λ n x. cc) (λ n ok x. cc) calls)
shown_by s e entries k (Some (Full size limit table)) is f shown calls = inl (shown, a_call e entries (Some (Full size limit table)) is (λ n x. cc) (λ n ok x. cc) calls)
shown_by s e entries k (Some (Began number)) is f shown calls =
    let same : record { caller = caller e; number = number } ≡ k = same_Some (record { caller = caller e; number = number }) k shown in
    inr (record { before = []; began = e; rest = entries; there = refl; own = ap (λ (z : OpenCommit). z.caller) same; deed = is ∙ ap (λ (z : OpenCommit). Some (Began z.number)) same; calls = calls })
shown_by s e entries k (Some (Ended number acknowledged)) is f shown calls = absurd (cc)
shown_by s e entries k (Some (Underway number)) is f shown calls = inl (shown, a_call e entries (Some (Underway number)) is (λ n x. cc) (λ n ok x. cc) calls)

is_shown : (s : Standing) (entries : List Entry) (k : OpenCommit) → EachFits s entries → (after_entries s entries).under_way ≡ Some k → IsShown s entries k
is_shown s [] k f shown = inl (shown, All-nil IsNoCommit)
is_shown s (e ∷ entries) k f shown =
    ⊎_elim (λ (p : ((after_entry s e).under_way ≡ Some k) × AreCalls entries). shown_by s e entries k (deed_of e.word) refl (f.fits [] e entries refl).deed p.0 p.1)
    (λ (p : IsOpenIn entries k). inr (record { before = e ∷ p.before; began = p.began; rest = p.rest; there = ap (λ z. e ∷ z) p.there; own = p.own; deed = p.deed; calls = p.calls })) (is_shown (after_entry s e) entries k (each_later s e entries f) shown)

all_at : (P : Entry → Type 0) (before rest : List Entry) (e : Entry) → All P (before ++ e ∷ rest) → P e
all_at P [] rest e a = All-head P e rest a
all_at P (x ∷ before) rest e a = all_at P before rest e (All-tail P x (before ++ e ∷ rest) a)

calls_unended : (n : ℕ) (rest : List Entry) → AreCalls rest → All (IsNoEnd n) rest
calls_unended n [] calls = All-nil (IsNoEnd n)
calls_unended n (e ∷ rest) calls = All-cons (IsNoEnd n) e rest (λ ok. (All-head IsNoCommit e rest calls).ends_none n ok) (calls_unended n rest (All-tail IsNoCommit e rest calls))

-- the number of a commit that is under way fits its words
pub open_small : (b : Basis) (h : List Entry) (k : OpenCommit) → IsLegal b h → (standing b h).under_way ≡ Some k → k.number < 2 ^ 32
open_small b h k l shown =
    ⊎_elim (λ (p : (None ≡ Some k) × AreCalls h). let q : None ≡ Some k = p.0 in cc) (λ (p : IsOpenIn h k). is_deed p.began.word (Began k.number) p.deed) (is_shown (opening b) h k (fits_on b [] h l) shown)

-- where each commit of the caller of the one under way has ended, none is under way
pub none_open : (b : Basis) (h : List Entry) (k : OpenCommit) → IsStart b → IsLegal b h → (standing b h).under_way ≡ Some k → AreEnded (calls_by k.caller h) → ⊥
none_open b h k start l shown ended = ⊎_elim (λ (p : (None ≡ Some k) × AreCalls h). let q : None ≡ Some k = p.0 in cc) go (is_shown (opening b) h k (fits_on b [] h l) shown) where
  go : IsOpenIn h k → ⊥
  go p =
      let whole : IsLegal b (p.before ++ p.began ∷ p.rest) = subst (IsLegal b) p.there l in
      let short : IsLegal b p.before = legal_before b p.before (p.before ++ p.began ∷ p.rest) whole (record { rest = p.began ∷ p.rest; whole = refl }) in
      let next : k.number ≡ next_number b p.before = (fits_there b p.before p.rest p.began (Some (Began k.number)) whole p.deed).2 in
      let P : Entry → Type 0 = IsNoEnd k.number in
      let front : All P p.before = subst (λ m. All (IsNoEnd m) p.before) (sym next) (unended_next b p.before start short) in
      let here : P p.began = λ ok at. let d : Some (Began k.number) ≡ Some (Ended k.number ok) = sym p.deed ∙ at in cc in
      let all : All P h = subst (All P) (sym p.there) (All-append P p.before (p.began ∷ p.rest) front (All-cons P p.began p.rest here (calls_unended k.number p.rest p.calls))) in
      let none : All (IfOwn (IsNoBeginning k.number) k.caller) h = own_in (IsNoBeginning k.number) k.caller h (ended k.number (all_of P k.caller h all)) in
      all_at (IfOwn (IsNoBeginning k.number) k.caller) p.before p.rest p.began (subst (All (IfOwn (IsNoBeginning k.number) k.caller)) p.there none) p.own p.deed
