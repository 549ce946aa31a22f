-- How far words come, one word more, and what that says of them.
use Rattle.std.proofs.Common.{◌≡◌, ◌≤◌, ◌<◌, ◌+◌, ℕ, zero, suc, true, false, inl, inr, List, [], ◌∷◌, ◌++◌, length, length-append, get_or, take, drop, Option, Some, None, option_and_then, refl, sym, ap, subst, ◌∙◌, arith}
use Rattle.std.proofs.lemmas.List.{take_all}
use Rattle.core_model.specs.declared.state.ReplayState.{ReplayState}
use Rattle.core_model.specs.Cuts.{Extends, StartsWith}
use Rattle.core_model.specs.History.{after}
use Rattle.core_model.specs.Replay.{IsFirstWrong, AreBeginnings, IsWrongAt, LeadsInto, LeadsTo, Lists, lists_of}
use Rattle.core_model.specs.Steps.{HasStart, next_state, state_after, is_end, first_state}
use Rattle.core_model.proofs.Extending.{extends_history}
use Rattle.core_model.proofs.Leading.{into_passes, reached_on, self_reached, to_passes}
use Rattle.core_model.proofs.Tracing.{passes_into}

-- behind a word that fits, or where none does
both : (lists : Lists) (a b : List ℕ) → ((q : ReplayState) → state_after lists q (a ++ b) ≡ option_and_then (λ r. state_after lists r b) (state_after lists q a)) → (o : Option ReplayState)
    → option_and_then (λ q. state_after lists q (a ++ b)) o ≡ option_and_then (λ q. state_after lists q b) (option_and_then (λ q. state_after lists q a) o)
both lists a b each None = refl
both lists a b each (Some q) = each q

-- words and those behind them
pub state_after-append : (lists : Lists) (p : ReplayState) (a b : List ℕ) → state_after lists p (a ++ b) ≡ option_and_then (λ q. state_after lists q b) (state_after lists p a)
state_after-append lists p [] b = refl
state_after-append lists p (w ∷ a) b = both lists a b (λ q. state_after-append lists q a b) (next_state lists p w)

-- words of which one does not fit
pub stuck : (lists : Lists) (p q : ReplayState) (before : List ℕ) (w : ℕ) (rest : List ℕ) → state_after lists p before ≡ Some q → next_state lists q w ≡ None → state_after lists p (before ++ w ∷ rest) ≡ None
stuck lists p q before w rest fits wrong =
    state_after-append lists p before (w ∷ rest) ∙ ap (option_and_then (λ r. state_after lists r (w ∷ rest))) fits
    ∙ ap (option_and_then (λ r. state_after lists r rest)) wrong

-- a word more that fits
pub further : (lists : Lists) (p q r : ReplayState) (before : List ℕ) (w : ℕ) → state_after lists p before ≡ Some q → next_state lists q w ≡ Some r → state_after lists p (before ++ w ∷ []) ≡ Some r
further lists p q r before w fits next =
    state_after-append lists p before (w ∷ []) ∙ ap (option_and_then (λ s. state_after lists s (w ∷ []))) fits
    ∙ ap (option_and_then (λ s. state_after lists s [])) next

-- words, parted round the word at a place
pub parted : (words : List ℕ) (i : ℕ) → i < length words → words ≡ take i words ++ get_or words i 0 ∷ drop (i + 1) words
parted [] i within = absurd (omega arith)
parted (w ∷ words) zero within = refl
parted (w ∷ words) (suc i) within =
    let next : suc i + 1 ≡ suc (i + 1) = omega arith in
    rw next (ap (λ ws. w ∷ ws) (parted words i (omega arith)))

-- the words to a place, and that at it
pub take-next : (words : List ℕ) (i : ℕ) → i < length words → take (i + 1) words ≡ take i words ++ get_or words i 0 ∷ []
take-next [] i within = absurd (omega arith)
take-next (w ∷ words) zero within = refl
take-next (w ∷ words) (suc i) within =
    let next : suc i + 1 ≡ suc (i + 1) = omega arith in
    rw next (ap (λ ws. w ∷ ws) (take-next words i (omega arith)))

-- words that pass, to an earlier place
passes_before : (lists : Lists) (p q : ReplayState) (words : List ℕ) (i j : ℕ) → j ≤ i → state_after lists p (take i words) ≡ Some q → (r : ReplayState) × (state_after lists p (take j words) ≡ Some r)
passes_before lists p q words i zero le e = (p, refl)
passes_before lists p q [] i (suc j) le e = (p, refl)
passes_before lists p q (w ∷ words) zero (suc j) le e = absurd (omega arith)
passes_before lists p q (w ∷ words) (suc i) (suc j) le e = go (next_state lists p w) (λ r f. passes_before lists r q words i j (omega arith) f) e where
  go : (o : Option ReplayState) → ((r : ReplayState) → state_after lists r (take i words) ≡ Some q → (s : ReplayState) × (state_after lists r (take j words) ≡ Some s)) → option_and_then (λ r. state_after lists r (take i words)) o ≡ Some q
      → (s : ReplayState) × (option_and_then (λ r. state_after lists r (take j words)) o ≡ Some s)
  go None h e = absurd cc
  go (Some r) h e = h r e

-- The verdict.

to_into : (start : ℕ × ℕ × ℕ) (words : List ℕ) (lists : Lists) → LeadsTo start words lists → LeadsInto start words lists
to_into start words lists k = record { reached = lists; leads = k; beginnings = self_reached lists }

starts_shorter : (short long : List (List ℕ)) → StartsWith short long → length short ≤ length long
starts_shorter short long s = omega (arith, ap length s.1, length-append short s.0)

-- the lists have what there was at first
start_there : (start : ℕ × ℕ × ℕ) (words : List ℕ) (lists : Lists) → LeadsInto start words lists → HasStart lists start
start_there start words lists i =
    let k = i.leads in
    let kept : Extends (after k.basis []) (after k.basis k.entries) = extends_history k.basis [] k.entries in
    let begins : AreBeginnings (lists_of (after k.basis k.entries)) lists = subst (λ z. AreBeginnings z lists) (sym k.lists) i.beginnings in
    let opened = reached_on (after k.basis []) (after k.basis k.entries) lists kept begins in
    subst (HasStart lists) k.counts
    (record { types = starts_shorter k.basis.types lists.types opened.types; items = starts_shorter k.basis.items lists.items opened.items; names = starts_shorter k.basis.names lists.names opened.names })

-- without that, no word leads into them
pub wrong_from_start : (start : ℕ × ℕ × ℕ) (words : List ℕ) (lists : Lists) → ¬ HasStart lists start → IsFirstWrong start words lists 0
wrong_from_start start words lists lacks = record { wrong = go words; least = λ earlier below. absurd (omega arith) } where
  go : (words : List ℕ) → IsWrongAt start words lists 0
  go [] = inr (refl, λ k. lacks (start_there start [] lists (to_into start [] lists k)))
  go (w ∷ words) = inl (omega arith, λ k. lacks (start_there start (take (0 + 1) (w ∷ words)) lists k))

pub leads_not_without : (start : ℕ × ℕ × ℕ) (words : List ℕ) (lists : Lists) → ¬ HasStart lists start → ¬ LeadsTo start words lists
leads_not_without start words lists lacks k = lacks (start_there start words lists (to_into start words lists k))

-- before a place to which the words pass none is wrong
none_earlier : (start : ℕ × ℕ × ℕ) (words : List ℕ) (lists : Lists) (q : ReplayState) (i : ℕ) → HasStart lists start → i ≤ length words → state_after lists (first_state start) (take i words) ≡ Some q
    → (earlier : ℕ) → earlier < i → ¬ IsWrongAt start words lists earlier
none_earlier start words lists q i has within e earlier less (inl wrong) =
    let r = passes_before lists (first_state start) q words i (earlier + 1) (omega arith) e in wrong.1 (passes_into start (take (earlier + 1) words) lists r.0 has r.1)
none_earlier start words lists q i has within e earlier less (inr wrong) = omega (arith, wrong.0)

-- where a word does not fit
not_further : (lists : Lists) (p q : ReplayState) (words : List ℕ) (i : ℕ) → i < length words → state_after lists p (take i words) ≡ Some q → next_state lists q (get_or words i 0) ≡ None → state_after lists p (take (i + 1) words) ≡ None
not_further lists p q words i within fits wrong = ap (state_after lists p) (take-next words i within) ∙ stuck lists p q (take i words) (get_or words i 0) [] fits wrong

pub wrong_at : (start : ℕ × ℕ × ℕ) (words : List ℕ) (lists : Lists) (q : ReplayState) (i : ℕ) → HasStart lists start → i < length words → state_after lists (first_state start) (take i words) ≡ Some q → next_state lists q (get_or words i 0) ≡ None
    → IsFirstWrong start words lists i
wrong_at start words lists q i has within fits wrong = record {
  wrong = inl (within, λ k. let r = into_passes start (take (i + 1) words) lists k in let no : None ≡ Some r.0 = sym (not_further lists (first_state start) q words i within fits wrong) ∙ r.1 in absurd cc);
  least = none_earlier start words lists q i has (omega arith) fits;
}

pub leads_not_past : (start : ℕ × ℕ × ℕ) (words : List ℕ) (lists : Lists) (q : ReplayState) (i : ℕ) → i < length words → state_after lists (first_state start) (take i words) ≡ Some q → next_state lists q (get_or words i 0) ≡ None
    → ¬ LeadsTo start words lists
leads_not_past start words lists q i within fits wrong k =
    let r = to_passes start words lists k in
    let none : state_after lists (first_state start) words ≡ None =
    ap (state_after lists (first_state start)) (parted words i within) ∙ stuck lists (first_state start) q (take i words) (get_or words i 0) (drop (i + 1) words) fits wrong in
    let no : None ≡ Some r.0 = sym none ∙ r.1 in absurd cc

-- where all words pass, and the lists are not whole
pub leads_not_whole : (start : ℕ × ℕ × ℕ) (words : List ℕ) (lists : Lists) (q : ReplayState) → state_after lists (first_state start) words ≡ Some q → is_end lists q ≡ false → ¬ LeadsTo start words lists
leads_not_whole start words lists q fits short k =
    let r = to_passes start words lists k in
    let same : r.0 ≡ q = let z : Some r.0 ≡ Some q = sym r.1 ∙ fits in cc in
    let no : true ≡ false = sym r.2 ∙ ap (is_end lists) same ∙ short in absurd cc

pub wrong_behind : (start : ℕ × ℕ × ℕ) (words : List ℕ) (lists : Lists) (q : ReplayState) → HasStart lists start → state_after lists (first_state start) words ≡ Some q → is_end lists q ≡ false → IsFirstWrong start words lists (length words)
wrong_behind start words lists q has fits short = record {
  wrong = inr (refl, leads_not_whole start words lists q fits short);
  least = none_earlier start words lists q (length words) has (omega arith) (ap (state_after lists (first_state start)) (take_all (length words) words (omega arith)) ∙ fits);
}
