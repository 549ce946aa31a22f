-- Commits that have not ended, and what may come behind a legal history.
use Rattle.std.proofs.Common.{◌≡◌, ◌≢◌, ◌<◌, ◌+◌, ◌-◌, ◌^◌, ℕ, Bool, true, false, cond, List, [], ◌∷◌, ◌++◌, Option, Some, None, refl, sym, ap, ◌∙◌, subst, arith}
use Rattle.std.proofs.lemmas.Bool.{ltb-true}
use Rattle.std.proofs.lemmas.List.{append-nil, append_assoc}
use Rattle.std.proofs.lemmas.List.Sums.{sum_by-append}
use Rattle.std.proofs.lemmas.List.Elements.{All-cons, All-head, All-nil, All-tail}
use Rattle.std.proofs.lemmas.Option.{same_Some}
use Rattle.turnstile.specs.declared.history.Entry.{Entry}
use Rattle.turnstile.specs.declared.history.Basis.{Basis}
use Rattle.turnstile.specs.Histories.{caller}
use Rattle.call_journal.specs.declared.deed.Deed.{Deed}
use Rattle.call_journal.specs.declared.deed.Deed.TheVariants.{Added, Asked, Counted, NotGiven, Full, Began, Ended, Underway}
use Rattle.call_journal.specs.Words.{IsDeed, deed_of}
use Rattle.table_model.specs.declared.call.Call.{Call}
use Rattle.table_model.specs.Calls.{answer, is_call}
use Rattle.table_model.specs.Cut.{Cut}
use Rattle.core_model.specs.Cuts.{IsAllowed}
use Rattle.core_model.specs.Entries.{entry_of, entry_of_call}
use Rattle.core_model.specs.History.{DeedFits, IsLegal, IsStart, OpenCommit, Standing, after, after_deed, after_entries, after_entry, standing}
use Rattle.core_model.specs.Legal.{AreCalls, EndsNoneOf, IsNoCommit, faulted_ends, is_faulted_end}
use Rattle.core_model.specs.Passes.{is_pass}
use Rattle.core_model.proofs.Allowed.{allowed_more}
use Rattle.core_model.proofs.Filing.{call_fits}
use Rattle.core_model.proofs.Growing.{legal_more, standing_more, standing_on}
use Rattle.core_model.proofs.Sound.{EachFits, each_later, fits_of, fits_on, is_of, sound_standing}

-- commits that have not ended

-- an entry that fits while a commit is under way, and is no end of its caller, is none of a commit
record IsBetween (s : Standing) (k : OpenCommit) (e : Entry) : Type 0 where
  no_commit : IsNoCommit e
  under_way : (after_entry s e).under_way ≡ Some k

no_commit : (e : Entry) (deed : Option Deed) → deed_of e.word ≡ deed → ((n : ℕ) → deed ≢ Some (Began n)) → ((n : ℕ) (ok : Bool) → deed ≢ Some (Ended n ok)) → IsNoCommit e
no_commit e deed is begins ends = record { begins_none = λ n at. begins n (sym is ∙ at); ends_none = λ n ok at. ends n ok (sym is ∙ at) }

still_open : (s : Standing) (k : OpenCommit) (e : Entry) (deed : Option Deed) → deed_of e.word ≡ deed → ((n : ℕ) → deed ≢ Some (Began n)) → ((n : ℕ) (ok : Bool) → deed ≢ Some (Ended n ok))
    → (after_deed s (caller e) deed e.brought).under_way ≡ Some k → IsBetween s k e
still_open s k e deed is begins ends shown = record { no_commit = no_commit e deed is begins ends; under_way = ap (λ d. (after_deed s (caller e) d e.brought).under_way) is ∙ shown }

between : (s : Standing) (k : OpenCommit) (e : Entry) (deed : Option Deed) → deed_of e.word ≡ deed → s.under_way ≡ Some k → DeedFits s (caller e) deed e.brought
    → (caller e ≡ k.caller → (n : ℕ) (ok : Bool) → deed_of e.word ≢ Some (Ended n ok)) → IsBetween s k e
between s k e None is shown f ends = absurd f
between s k e (Some (Added table at)) is shown f ends = still_open s k e (Some (Added table at)) is (λ n no. cc) (λ n ok no. cc) shown
between s k e (Some (Asked table at)) is shown f ends = still_open s k e (Some (Asked table at)) is (λ n no. cc) (λ n ok no. cc) shown
between s k e (Some Counted) is shown f ends = still_open s k e (Some Counted) is (λ n no. cc) (λ n ok no. cc) shown
between s k e (Some (NotGiven index space table)) is shown f ends = still_open s k e (Some (NotGiven index space table)) is (λ n no. cc) (λ n ok no. cc) shown
between s k e (Some (Full size limit table)) is shown f ends = still_open s k e (Some (Full size limit table)) is (λ n no. cc) (λ n ok no. cc) shown
between s k e (Some (Began number)) is shown f ends = let none : None ≡ Some k = sym f.1 ∙ shown in absurd (cc)
between s k e (Some (Ended number acknowledged)) is shown f ends =
    let same : k ≡ record { caller = caller e; number = number } = same_Some k (record { caller = caller e; number = number }) (sym shown ∙ f.1) in
    absurd (ends (sym (ap (λ (z : OpenCommit). z.caller) same)) number acknowledged is)
between s k e (Some (Underway number)) is shown f ends = still_open s k e (Some (Underway number)) is (λ n no. cc) (λ n ok no. cc) shown

abbrev IsNoEndOf : ℕ → Entry → Type 0
IsNoEndOf c e = caller e ≡ c → (n : ℕ) (ok : Bool) → deed_of e.word ≢ Some (Ended n ok)

unended_on : (s : Standing) (k : OpenCommit) (entries : List Entry) → EachFits s entries → EndsNoneOf k.caller entries → s.under_way ≡ Some k → AreCalls entries × ((after_entries s entries).under_way ≡ Some k)
unended_on s k [] f ends shown = (All-nil IsNoCommit, shown)
unended_on s k (e ∷ entries) f ends shown =
    let one = between s k e (deed_of e.word) refl shown (f.fits [] e entries refl).deed (All-head (IsNoEndOf k.caller) e entries ends) in
    let rest = unended_on (after_entry s e) k entries (each_later s e entries f) (All-tail (IsNoEndOf k.caller) e entries ends) one.under_way in
    (All-cons IsNoCommit e entries one.no_commit rest.0, rest.1)

-- until its caller ends a commit, no entry begins or ends one, and it is the one under way
pub unended : (b : Basis) (front between : List Entry) (began : Entry) (n : ℕ) → IsLegal b (front ++ began ∷ between) → deed_of began.word ≡ Some (Began n) → EndsNoneOf (caller began) between
    → AreCalls between × ((standing b (front ++ began ∷ between)).under_way ≡ Some (record { caller = caller began; number = n }))
unended b front between began n l is ends =
    let k : OpenCommit = record { caller = caller began; number = n } in
    let start : List Entry = front ++ began ∷ [] in
    let at : front ++ began ∷ between ≡ start ++ between = sym (append_assoc front (began ∷ []) between) in
    let shown : (standing b start).under_way ≡ Some k =
    ap (λ (z : Standing). z.under_way) (standing_more b front began) ∙ ap (λ d. (after_deed (standing b front) (caller began) d began.brought).under_way) is in
    let both = unended_on (standing b start) k between (fits_on b start between (subst (IsLegal b) at l)) ends shown in
    (both.0, ap (λ z. (standing b z).under_way) at ∙ ap (λ (z : Standing). z.under_way) (standing_on b start between) ∙ both.1)

-- what may come behind a legal history

pub call_legal : (b : Basis) (h : List Entry) → IsStart b → IsLegal b h → (c : ℕ) (call : Call) (e : Entry) → is_pass c ≡ true → is_call call ≡ true → entry_of_call c call (answer (after b h) call) ≡ Some e → IsLegal b (h ++ e ∷ [])
call_legal b h start l c call e pass is eq =
    let small = ltb-true c 255 pass in
    let k = call_fits b (standing b h) c call e (omega (arith, small)) is start (sound_standing b h start l) eq in
    legal_more b h e l (fits_of (standing b h) c k.deed e k.is k.bytes k.fits)

deed_legal : (b : Basis) (h : List Entry) (c : ℕ) (deed : Deed) → IsLegal b h → is_pass c ≡ true → IsDeed deed → DeedFits (standing b h) c (Some deed) [] → IsLegal b (h ++ entry_of c deed [] ∷ [])
deed_legal b h c deed l pass small fits =
    let few = ltb-true c 255 pass in legal_more b h (entry_of c deed []) l (fits_of (standing b h) c deed (entry_of c deed []) (is_of c deed [] (omega (arith, few)) small) refl fits)

pub began_legal : (b : Basis) (h : List Entry) → IsLegal b h → (c : ℕ) → is_pass c ≡ true → (standing b h).under_way ≡ None → (standing b h).number < 2 ^ 32 - 1 → IsLegal b (h ++ entry_of c (Began ((standing b h).number + 1)) [] ∷ [])
began_legal b h l c pass idle few = deed_legal b h c (Began ((standing b h).number + 1)) l pass (omega arith) (refl, idle, refl)

-- the number of a commit under way has 32 bits
small_open : (b : Basis) (h : List Entry) (k : OpenCommit) → IsStart b → IsLegal b h → (standing b h).under_way ≡ Some k → k.number < 2 ^ 32
small_open b h k start l shown = let i = sound_standing b h start l in omega (arith, i.newest k shown, i.number)

pub ended_legal : (b : Basis) (h : List Entry) → IsStart b → IsLegal b h → (k : OpenCommit) → (standing b h).under_way ≡ Some k → is_pass k.caller ≡ true → (ok : Bool) → IsLegal b (h ++ entry_of k.caller (Ended k.number ok) [] ∷ [])
ended_legal b h start l k shown pass ok = deed_legal b h k.caller (Ended k.number ok) l pass (small_open b h k start l shown) (refl, shown)

pub underway_legal : (b : Basis) (h : List Entry) → IsStart b → IsLegal b h → (k : OpenCommit) → (standing b h).under_way ≡ Some k → (c : ℕ) → is_pass c ≡ true → IsLegal b (h ++ entry_of c (Underway k.number) [] ∷ [])
underway_legal b h start l k shown c pass = deed_legal b h c (Underway k.number) l pass (small_open b h k start l shown) (refl, (k.caller, shown))

-- calls keep each allowed cut
pub allowed_on : (b : Basis) (h more : List Entry) (c : Cut) → AreCalls more → IsAllowed b h c → IsAllowed b (h ++ more) c
allowed_on b h [] c quiet a = subst (λ z. IsAllowed b z c) (sym (append-nil h)) a
allowed_on b h (e ∷ more) c quiet a =
    let head = All-head IsNoCommit e more quiet in
    let next = allowed_more b h c e (λ m at. head.ends_none m true at) a in
    subst (λ z. IsAllowed b z c) (append_assoc h (e ∷ []) more) (allowed_on b (h ++ e ∷ []) more c (All-tail IsNoCommit e more quiet) next)

-- faulted ends

pub faulted_append : (h more : List Entry) → faulted_ends (h ++ more) ≡ faulted_ends h + faulted_ends more
faulted_append h more = sum_by-append (λ (e : Entry). cond (is_faulted_end (deed_of e.word)) 1 0) h more

faulted_one : (e : Entry) (t : Bool) → is_faulted_end (deed_of e.word) ≡ t → faulted_ends (e ∷ []) ≡ 0 + cond t 1 0
faulted_one e t is = ap (λ z. 0 + cond z 1 0) is

pub faulted_more : (h : List Entry) (e : Entry) (n : ℕ) → deed_of e.word ≡ Some (Ended n false) → faulted_ends (h ++ e ∷ []) ≡ faulted_ends h + 1
faulted_more h e n is = omega (arith, faulted_append h (e ∷ []), faulted_one e true (ap is_faulted_end is))

not_faulted : (deed : Option Deed) → ((n : ℕ) → deed ≢ Some (Ended n false)) → is_faulted_end deed ≡ false
not_faulted (Some (Ended n true)) other = refl
not_faulted (Some (Ended n false)) other = absurd (other n refl)
not_faulted _ other = refl

pub faulted_same : (h : List Entry) (e : Entry) → ((n : ℕ) → deed_of e.word ≢ Some (Ended n false)) → faulted_ends (h ++ e ∷ []) ≡ faulted_ends h
faulted_same h e other = omega (arith, faulted_append h (e ∷ []), faulted_one e false (not_faulted (deed_of e.word) other))
