-- What a call of a hub makes of its pass.
use Rattle.std.specs.Prelude.{◌≡◌, ◌≤◌, ◌+◌, ℕ, Bool, not, List, [], ◌∷◌, ◌++◌, Some, Result, Ok, Err, if◌then◌else◌}
use Rattle.leaf_grammar.specs.declared.grammar.Leaf.{Leaf}
use Rattle.leaf_grammar.specs.declared.grammar.Malformed.{Malformed}
use Rattle.srv_edge.specs.declared.failed.Refusal.{Refusal}
use Rattle.srv_edge.specs.declared.failed.Refusal.TheVariants as refusal
use Rattle.call_journal.specs.declared.deed.Deed.TheVariants.{Began, Ended, Underway}
use Rattle.turnstile.specs.declared.history.Basis.{Basis}
use Rattle.turnstile.specs.declared.history.Entry.{Entry}
use Rattle.turnstile.specs.Histories.{Begins}
use Rattle.turnstile.specs.Passes.{PassView}
use Rattle.table_model.specs.declared.call.Call.{Call}
use Rattle.table_model.specs.declared.call.Outcome.{Outcome}
use Rattle.table_model.specs.Calls.{answer}
use Rattle.core_model.specs.Entries.{entry_of, entry_of_call}
use Rattle.core_model.specs.History.{after, most_calls, standing}
use Rattle.core_model.specs.Legal.{IsNoCommit}
use Rattle.hub.specs.Calls.{IsBeginning, IsUnbegun, IsUnderWay, IsUnfiled, next_number}
use Rattle.hub.specs.Kept.{IsOwnOpen}
use Rattle.hub.specs.Stories.{Story, taken}

-- a history on the basis of a pass
abbrev pub story_of : PassView → List Entry → Story
story_of p entries = record { basis = p.basis; entries = entries }

-- ---- adds, gets and counts

-- Others have filed what they had. Then the call was answered by the tables as they stood, and its entry came last.
pub record IsAnswered (old new : PassView) (call : Call) (reply : Result Outcome Refusal) : Type 0 where
  pub before : List Entry
  pub first : Begins old.seen before
  pub right : reply ≡ answer (after old.basis before) call
  pub entry : Entry
  pub word : entry_of_call old.number call reply ≡ Some entry
  pub plain : IsNoCommit entry
  pub room : taken old.basis before + 1 ≤ most_calls old.basis
  pub seen : new.seen ≡ before ++ entry ∷ []
  pub mine : new.mine ≡ old.mine ++ entry ∷ []

-- A call that has no entry: the pass has then seen the history, and why.
pub record IsRefused {A : Type 0} (old new : PassView) (result : Result A Refusal) : Type 0 where
  pub why : Refusal
  pub is : result ≡ Err why
  pub first : Begins old.seen new.seen
  pub mine : new.mine ≡ old.mine
  pub cause : IsUnfiled old.basis new.seen why

-- bytes that are no leaf: nothing was done
pub record IsMalformed {A : Type 0} (old new : PassView) (leaf : Result Leaf Malformed) (result : Result A Refusal) : Type 0 where
  pub wrong : Malformed
  pub there : leaf ≡ Err wrong
  pub is : result ≡ Err (refusal.Malformed wrong.at wrong.what)
  pub same : new ≡ old

-- ---- commits

-- what clauses see of a file that is out for a commit: the history where that begins, and its device
pub record OutView (D : Type 0) : Type 0 where
  pub basis : Basis
  pub kept : List Entry
  pub device : D

-- the same once the commit was written, or failed
pub record DoneView (D : Type 0) : Type 0 where
  pub basis : Basis
  pub kept : List Entry
  pub device : D
  pub failed : Bool

-- the number of that commit
abbrev pub number_of : Basis → List Entry → ℕ
number_of b kept = (standing b kept).number

-- A pass begins a commit, once others have filed what they had, and may end it.
pub record IsBegunBy {D : Type 0} (old new : PassView) (out : OutView D) : Type 0 where
  pub before : List Entry
  pub first : Begins old.seen before
  pub begins : IsBeginning (story_of old before) (story_of old new.seen) old.number
  pub mine : new.mine ≡ old.mine ++ entry_of old.number (Began (next_number old.basis before)) [] ∷ []
  pub basis : out.basis ≡ old.basis
  pub kept : out.kept ≡ new.seen
  pub own : IsOwnOpen old.number out.kept new.mine

-- Its commit is refused, since another is under way.
pub record IsRefusedUnderWay (old new : PassView) (why : Refusal) : Type 0 where
  pub before : List Entry
  pub first : Begins old.seen before
  pub under_way : IsUnderWay (story_of old before) (story_of old new.seen) old.number why
  pub mine : new.mine ≡ old.mine ++ entry_of old.number (Underway under_way.commit.number) [] ∷ []

-- Its commit has no entry.
pub record IsNotBegun (old new : PassView) (why : Refusal) : Type 0 where
  pub first : Begins old.seen new.seen
  pub mine : new.mine ≡ old.mine
  pub cause : IsUnbegun old.basis new.seen why

-- what a commit answers that has begun
abbrev pub answer_of_commit : Bool → ℕ → Result ℕ Refusal
answer_of_commit acknowledged number = if acknowledged then Ok number else Err (refusal.DiskFault number)

-- A pass ends its commit, once others have filed what they had.
pub record IsEndedBy {D : Type 0} (old new : PassView) (done : DoneView D) (result : Result ℕ Refusal) : Type 0 where
  pub before : List Entry
  pub first : Begins old.seen before
  pub seen : new.seen ≡ before ++ entry_of old.number (Ended (number_of done.basis done.kept) (not done.failed)) [] ∷ []
  pub mine : new.mine ≡ old.mine ++ entry_of old.number (Ended (number_of done.basis done.kept) (not done.failed)) [] ∷ []
  pub reply : result ≡ answer_of_commit (not done.failed) (number_of done.basis done.kept)

-- A pass makes a whole commit: its two entries, with those of others in front of them and between them.
pub record Commits (old new : PassView) (result : Result ℕ Refusal) : Type 0 where
  pub before : List Entry
  pub between : List Entry
  pub number : ℕ
  pub acknowledged : Bool
  pub first : Begins old.seen before
  pub begins : IsBeginning (story_of old before) (story_of old (before ++ entry_of old.number (Began number) [] ∷ [])) old.number
  pub next : number ≡ next_number old.basis before
  pub seen : new.seen ≡ (before ++ entry_of old.number (Began number) [] ∷ between) ++ entry_of old.number (Ended number acknowledged) [] ∷ []
  pub mine : new.mine ≡ old.mine ++ entry_of old.number (Began number) [] ∷ entry_of old.number (Ended number acknowledged) [] ∷ []
  pub reply : result ≡ answer_of_commit acknowledged number
