-- What a commit by a pass makes of it, and what it is answered.
use Rattle.std.proofs.Common.{◌≡◌, ◌⊎◌, ◌≤◌, ◌<◌, inl, inr, ◌+◌, ◌^◌, ℕ, Bool, true, false, List, [], ◌∷◌, ◌++◌, Some, None, Result, Ok, Err, refl, sym, ap, subst, ◌∙◌, ⊎_elim, arith, append_assoc}
use Rattle.std.specs.Prelude.{All, IsTrue, IsErrAnd}
use Rattle.std.proofs.lemmas.List.{append-nil}
use Rattle.std.proofs.lemmas.List.Elements.{All-cons, All-head, All-nil, All-tail}
use Rattle.srv_edge.specs.declared.failed.Refusal.{Refusal}
use Rattle.srv_edge.specs.Count.{HasCause, Rose}
use Rattle.srv_edge.specs.Frames.{word_bytes}
use Rattle.call_journal.specs.declared.deed.Deed.TheVariants as deed
use Rattle.call_journal.specs.Words.{deed_of}
use Rattle.call_journal.proofs.Decoding.{deed_of_word}
use Rattle.turnstile.specs.declared.history.Basis.{Basis}
use Rattle.turnstile.specs.declared.history.Entry.{Entry}
use Rattle.turnstile.specs.Histories.{caller}
use Rattle.turnstile.specs.Passes.{IsSamePass, IsSound, PassView}
use Rattle.core_model.specs.Entries.{entry_of}
use Rattle.core_model.specs.declared.commit.OpenCommit.{OpenCommit}
use Rattle.core_model.specs.History.{DeedFits, IsLegal, standing}
use Rattle.core_model.specs.Legal.{faulted_ends}
use Rattle.core_model.proofs.Open.{faulted_append, faulted_more, faulted_same}
use Rattle.core_model.proofs.Replying.{fits_there}
use Rattle.hub.specs.Calls.{IsUnbegun}
use Rattle.hub.specs.Ends.{AreEnded, IsNoBeginning}
use Rattle.hub.specs.Kept.{IsNoEnd}
use Rattle.hub.specs.Passes.{Commits, IsNotBegun, IsRefusedUnderWay, answer_of_commit}
use Rattle.request_frames.specs.Refusals.{refusal_message}
use Rattle.request_frames.specs.Talk.{is_disk_fault}
use Rattle.client_session.specs.Sharing.{CommitsBy, HasMade}
use Rattle.client_session.specs.Tables.{index_reply}
use Rattle.client_session.proofs.Passing.{begins_more, by_its_number, calm_kind, ended_more}

-- What the replies and the causes of a commit's request are, with what the pass has made.
pub record MadeCommit (old : PassView) (answered : Result ℕ Refusal) (new : PassView) : Type 0 where
  pub own : List Entry
  pub made : HasMade old own new
  pub ended : AreEnded old.mine → AreEnded new.mine
  pub cause : HasCause (IsTrue (is_disk_fault (index_reply 136 answered))) (faulted_ends old.mine) (faulted_ends new.mine)

-- ---- a whole commit

-- the number of a commit that begins has 32 bits
module _ (c n : ℕ) (small : n < 2 ^ 32) (ok : Bool) where
  abbrev B : Entry
  B = entry_of c (deed.Began n) []

  abbrev E : Entry
  E = entry_of c (deed.Ended n ok) []

  began : deed_of B.word ≡ Some (deed.Began n)
  began = deed_of_word c (deed.Began n) small

  is_ended : deed_of E.word ≡ Some (deed.Ended n ok)
  is_ended = deed_of_word c (deed.Ended n ok) small

  -- a number that does not end in the two entries does not begin there
  both_ended : (number : ℕ) → All (IsNoEnd number) (B ∷ E ∷ []) → All (IsNoBeginning number) (B ∷ E ∷ [])
  both_ended number none =
      let no_end : IsNoEnd number E = All-head (IsNoEnd number) E [] (All-tail (IsNoEnd number) B (E ∷ []) none) in
      All-cons (IsNoBeginning number) B (E ∷ []) (λ begins.
      let same : Some (deed.Began n) ≡ Some (deed.Began number) = sym began ∙ begins in
      let number_is : n ≡ number = cc in
      no_end ok (is_ended ∙ ap (λ m. Some (deed.Ended m ok)) number_is))
      (All-cons (IsNoBeginning number) E [] (λ begins. let no : Some (deed.Ended n ok) ≡ Some (deed.Began number) = sym is_ended ∙ begins in cc) (All-nil (IsNoBeginning number)))

began_faults_none : (mine : List Entry) (c n : ℕ) → n < 2 ^ 32 → faulted_ends (mine ++ entry_of c (deed.Began n) [] ∷ []) ≡ faulted_ends mine
began_faults_none mine c n small = faulted_same mine (entry_of c (deed.Began n) []) (λ m at. let no : Some (deed.Began n) ≡ Some (deed.Ended m false) = sym (deed_of_word c (deed.Began n) small) ∙ at in cc)

-- how many commits are ended as faulted behind a whole one
whole_faults : (mine : List Entry) (c n : ℕ) → n < 2 ^ 32 → (ok : Bool) → faulted_ends (mine ++ entry_of c (deed.Began n) [] ∷ entry_of c (deed.Ended n ok) [] ∷ []) ≡ faulted_ends ((mine ++ entry_of c (deed.Began n) [] ∷ []) ++ entry_of c (deed.Ended n ok) [] ∷ [])
whole_faults mine c n small ok = ap faulted_ends (sym (append_assoc mine (entry_of c (deed.Began n) [] ∷ []) (entry_of c (deed.Ended n ok) [] ∷ [])))

cause_whole : (mine : List Entry) (c n : ℕ) → n < 2 ^ 32 → (ok : Bool) →
    HasCause (IsTrue (is_disk_fault (index_reply 136 (answer_of_commit ok n)))) (faulted_ends mine) (faulted_ends (mine ++ entry_of c (deed.Began n) [] ∷ entry_of c (deed.Ended n ok) [] ∷ []))
cause_whole mine c n small true =
    let none : faulted_ends (mine ++ entry_of c (deed.Began n) [] ∷ entry_of c (deed.Ended n true) [] ∷ []) ≡ faulted_ends mine =
    whole_faults mine c n small true
    ∙ faulted_same (mine ++ entry_of c (deed.Began n) [] ∷ []) (entry_of c (deed.Ended n true) [])
    (λ m at. let no : Some (deed.Ended n true) ≡ Some (deed.Ended m false) = sym (deed_of_word c (deed.Ended n true) small) ∙ at in cc)
    ∙ began_faults_none mine c n small in
    record { never_falls = omega (arith, none); rose = λ fault. absurd (let no : true ≡ false = sym fault ∙ calm_kind 136 (word_bytes n) refl in cc) }
cause_whole mine c n small false =
    let one : faulted_ends (mine ++ entry_of c (deed.Began n) [] ∷ entry_of c (deed.Ended n false) [] ∷ []) ≡ faulted_ends mine + 1 =
    whole_faults mine c n small false
    ∙ faulted_more (mine ++ entry_of c (deed.Began n) [] ∷ []) (entry_of c (deed.Ended n false) []) n (deed_of_word c (deed.Ended n false) small)
    ∙ ap (λ k. k + 1) (began_faults_none mine c n small) in
    record { never_falls = omega (arith, one); rose = λ fault. subst (Rose (faulted_ends mine)) (sym one) (rose_one (faulted_ends mine)) } where
      rose_one : (k : ℕ) → Rose k (k + 1)
      rose_one k = grind arith

made_whole : (old : PassView) (answered : Result ℕ Refusal) (new : PassView) → Commits old new answered → IsSamePass old new → IsSound IsLegal new → MadeCommit old answered new
made_whole old answered new w same sound =
    let c = old.number in
    let small : w.number < 2 ^ 32 = omega (arith, w.begins.may.number, w.next) in
    let own : List Entry = entry_of c (deed.Began w.number) [] ∷ entry_of c (deed.Ended w.number w.acknowledged) [] ∷ [] in
    let between : new.seen ≡ w.before ++ ((entry_of c (deed.Began w.number) [] ∷ w.between) ++ entry_of c (deed.Ended w.number w.acknowledged) [] ∷ []) =
    w.seen ∙ append_assoc w.before (entry_of c (deed.Began w.number) [] ∷ w.between) (entry_of c (deed.Ended w.number w.acknowledged) [] ∷ []) in
    record {
      own = own;
      made = record { same = same; seen = begins_more old.seen w.before new.seen _ w.first between; mine = w.mine; by_it = by_its_number old new own same sound w.mine };
      ended = λ ended. subst AreEnded (sym w.mine) (ended_more old.mine own (both_ended c w.number small w.acknowledged) ended);
      cause = subst (λ r. HasCause (IsTrue (is_disk_fault (index_reply 136 r))) (faulted_ends old.mine) (faulted_ends new.mine)) (sym w.reply)
          (subst (λ m. HasCause (IsTrue (is_disk_fault (index_reply 136 (answer_of_commit w.acknowledged w.number)))) (faulted_ends old.mine) (faulted_ends m)) (sym w.mine) (cause_whole old.mine c w.number small w.acknowledged));
    }

-- ---- one that is refused

-- a refusal that is no fault of a device leaves the count
cause_refused : (before after : ℕ) (answered : Result ℕ Refusal) (why : Refusal) → answered ≡ Err why → is_disk_fault (refusal_message why) ≡ false → before ≤ after → HasCause (IsTrue (is_disk_fault (index_reply 136 answered))) before after
cause_refused before after answered why is calm up =
    subst (λ r. HasCause (IsTrue (is_disk_fault (index_reply 136 r))) before after) (sym is)
    (record { never_falls = up; rose = λ fault. absurd (let no : true ≡ false = sym fault ∙ calm in cc) })

calm_unbegun : (b : Basis) (h : List Entry) (why : Refusal) → IsUnbegun b h why → is_disk_fault (refusal_message why) ≡ false
calm_unbegun b h why (inl full) = ap (λ z. is_disk_fault (refusal_message z)) full.0
calm_unbegun b h why (inr (inl wants)) = ap (λ z. is_disk_fault (refusal_message z)) wants
calm_unbegun b h why (inr (inr none)) = ap (λ z. is_disk_fault (refusal_message z)) none.is

made_not_begun : (old : PassView) (answered : Result ℕ Refusal) (why : Refusal) (new : PassView) → answered ≡ Err why → IsNotBegun old new why → IsSamePass old new → IsSound IsLegal new → MadeCommit old answered new
made_not_begun old answered why new is n same sound =
    let nothing : new.mine ≡ old.mine ++ [] = n.mine ∙ sym (append-nil old.mine) in
    record {
      own = [];
      made = record { same = same; seen = n.first; mine = nothing; by_it = by_its_number old new [] same sound nothing };
      ended = λ ended. subst AreEnded (sym n.mine) ended;
      cause = cause_refused (faulted_ends old.mine) (faulted_ends new.mine) answered why is (calm_unbegun old.basis new.seen why n.cause) (omega (arith, ap faulted_ends n.mine));
    }

-- An entry where a commit is under way begins none.
no_beginning : (b : Basis) (before : List Entry) (e : Entry) (k : OpenCommit) (number : ℕ) → IsLegal b (before ++ e ∷ []) → (standing b before).under_way ≡ Some k → IsNoBeginning number e
no_beginning b before e k number legal open_ = λ begins.
    let fits : DeedFits (standing b before) (caller e) (Some (deed.Began number)) e.brought = fits_there b before [] e (Some (deed.Began number)) legal begins in
    let no : Some k ≡ None = sym open_ ∙ fits.1 in
    cc

made_hindered : (old : PassView) (answered : Result ℕ Refusal) (why : Refusal) (new : PassView) → answered ≡ Err why → IsRefusedUnderWay old new why → IsSamePass old new → IsSound IsLegal new → MadeCommit old answered new
made_hindered old answered why new is u same sound =
    let k = u.under_way.commit in
    let e : Entry = entry_of old.number (deed.Underway k.number) [] in
    let seen : new.seen ≡ u.before ++ e ∷ [] = u.under_way.filed.entries in
    let legal : IsLegal old.basis (u.before ++ e ∷ []) = subst (IsLegal old.basis) seen (subst (λ b. IsLegal b new.seen) same.2 sound.lawful) in
    record {
      own = e ∷ [];
      made = record { same = same; seen = begins_more old.seen u.before new.seen (e ∷ []) u.first seen; mine = u.mine; by_it = by_its_number old new (e ∷ []) same sound u.mine };
      ended = λ ended. subst AreEnded (sym u.mine) (ended_more old.mine (e ∷ []) (λ number none. All-cons (IsNoBeginning number) e [] (no_beginning old.basis u.before e k number legal u.under_way.under_way) (All-nil (IsNoBeginning number))) ended);
      cause = cause_refused (faulted_ends old.mine) (faulted_ends new.mine) answered why is (ap (λ z. is_disk_fault (refusal_message z)) u.under_way.is)
          (omega (arith, ap faulted_ends u.mine, faulted_append old.mine (e ∷ [])));
    }

-- what a pass has made where its commit has ended, or was refused
pub made_by : (old : PassView) (answered : Result ℕ Refusal) (new : PassView) → CommitsBy old answered new → MadeCommit old answered new
made_by old answered new by = ⊎_elim (λ (w : Commits old new answered). made_whole old answered new w by.same by.sound) (λ (r : IsErrAnd answered (λ why. IsRefusedUnderWay old new why ⊎ IsNotBegun old new why)). refused answered refl r) by.made where
  refused : (r : Result ℕ Refusal) → answered ≡ r → IsErrAnd r (λ why. IsRefusedUnderWay old new why ⊎ IsNotBegun old new why) → MadeCommit old answered new
  refused (Ok n) is none = absurd none
  refused (Err why) is (inl u) = made_hindered old answered why new is u by.same by.sound
  refused (Err why) is (inr n) = made_not_begun old answered why new is n by.same by.sound
