-- A record of calls on a file, and what a crash may make of the file after them.
use Rattle.std.specs.Prelude.{◌≡◌, ◌≤◌, ◌<◌, ◌+◌, ◌++◌, ◌⊎◌, ℕ, slice_index, Bool, true, false, not, if◌then◌else◌, List, [], ◌∷◌, length, take, replicate, ◌==◌, Result, MatchResult}
use Rattle.std.specs.List.{list_any}
use Rattle.srv_edge.specs.Disk.{splice, splice_with, with_head, Torn, Whole}
use Rattle.srv_edge.specs.declared.memory_record.Call.{Call}
use Rattle.srv_edge.specs.declared.memory_record.CallKind.{CallKind}
use Rattle.srv_edge.specs.declared.memory_record.CallKind.TheVariants.{Size, Read, Write, Super, Sync}

-- a step that is not settled: a write of so many bytes at a place, or a head
pub data Step : Type 0 where
  torn : ℕ → ℕ → Step
  whole : List ℕ → Step

-- the file at the last good sync, the steps since, the last of them first, and what a read gives
pub record State : Type 0 where
  pub settled : List ℕ
  pub steps : List Step
  pub seen : List ℕ

-- what a crash may make of a settled file after these steps
abbrev pub IsImage : List ℕ → List Step → List ℕ → Type 0
IsImage settled [] c = c ≡ settled
IsImage settled (torn at n ∷ older) c = (d : List ℕ) × IsImage settled older d × Torn at n d c
IsImage settled (whole head ∷ older) c = (d : List ℕ) × IsImage settled older d × Whole head d c

abbrev pub IsImageOf : State → List ℕ → Type 0
IsImageOf s c = IsImage s.settled s.steps c

-- the state after a call, which was done or failed
abbrev pub after_kind : State → CallKind → List ℕ → Bool → State
after_kind s Size bytes done = s
after_kind s (Read at) bytes done = s
after_kind s (Write at) bytes done =
    record { settled = s.settled; steps = torn at (length bytes) ∷ s.steps; seen = if done then splice s.seen at bytes else s.seen }
after_kind s Super bytes done =
    record { settled = s.settled; steps = whole bytes ∷ s.steps; seen = if done then with_head s.seen bytes else s.seen }
after_kind s Sync bytes done = if done then record { settled = s.seen; steps = []; seen = s.seen } else s

abbrev pub after_call : State → Call → State
after_call s c = after_kind s c.kind c.bytes.items c.done

abbrev pub after_calls : State → List Call → State
after_calls s [] = s
after_calls s (c ∷ calls) = after_calls (after_call s c) calls

abbrev pub first_state : List ℕ → State
first_state file = record { settled = file; steps = []; seen = file }

-- the state of a file after these calls
abbrev pub state_of : List ℕ → List Call → State
state_of file calls = after_calls (first_state file) calls

-- what a crash at some moment since t might have left, where a moment is the number of calls
abbrev pub LeftSince : List ℕ → List Call → ℕ → List ℕ → Type 0
LeftSince file calls t c = (k : ℕ) × (t ≤ k) × (k ≤ length calls) × IsImageOf (state_of file (take k calls)) c

-- The image where each range that is not settled holds the fill, also between an old end and a write behind it, and the
-- heads that are not settled are all there or none.
abbrev pub image_from : List ℕ → List Step → ℕ → Bool → List ℕ
image_from settled [] fill heads = settled
image_from settled (torn at n ∷ older) fill heads = splice_with fill (image_from settled older fill heads) at (replicate n fill)
image_from settled (whole head ∷ older) fill heads =
    if heads then with_head (image_from settled older fill heads) head else image_from settled older fill heads

abbrev pub image_of : State → ℕ → Bool → List ℕ
image_of s fill heads = image_from s.settled s.steps fill heads

-- the calls with one more, which was this
pub record Adds (calls : List Call) (kind : CallKind) (bytes : List ℕ) (done : Bool) (calls' : List Call) : Type 0 where
  pub call : Call
  pub added : calls' ≡ calls ++ call ∷ []
  pub of_kind : call.kind ≡ kind
  pub of_bytes : call.bytes.items ≡ bytes
  pub as_done : call.done ≡ done

-- whether the call with this number, counted from 0, is to fail
abbrev pub is_to_fail : List ℕ → ℕ → Bool
is_to_fail fail n = list_any (λ y. y == n) fail

-- A call is kept, done or failed as this says, or it failed and is not kept.
abbrev pub KeepsAs : {A E : Type 0} → Bool → List Call → CallKind → List ℕ → Result A E → List Call → Type 0
KeepsAs done calls kind bytes result calls' =
    MatchResult result (λ _. Adds calls kind bytes true calls' × (done ≡ true)) (λ _. (Adds calls kind bytes false calls' × (done ≡ false)) ⊎ (calls' ≡ calls))

-- A call that is done is kept so, and was not to fail. One that fails is kept so where it was to, or not kept.
abbrev pub Keeps : {A E : Type 0} → List ℕ → List Call → CallKind → List ℕ → Result A E → List Call → Type 0
Keeps fail calls kind bytes result calls' = KeepsAs (not (is_to_fail fail (length calls))) calls kind bytes result calls'

-- no step that is not settled covers this byte
abbrev pub IsSpared : List Step → ℕ → Type 0
IsSpared [] i = Unit {0}
IsSpared (torn at n ∷ older) i = ((i < at) ⊎ (at + n ≤ i)) × IsSpared older i
IsSpared (whole head ∷ older) i = (length head ≤ i) × IsSpared older i

-- An image is at least as long as the settled file, and has its bytes where no step covers them.
pub record KeepsSettled (settled : List ℕ) (steps : List Step) (c : List ℕ) : Type 0 where
  pub no_shorter : length settled ≤ length c
  pub same : (i : ℕ) → i < length settled → IsSpared steps i → slice_index c i ≡ slice_index settled i
