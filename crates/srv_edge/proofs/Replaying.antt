-- What a call that is kept makes of a file in memory.
use Rattle.std.proofs.Common.{◌≡◌, ◌++◌, inl, inr, ℕ, Bool, true, false, List, [], ◌∷◌, length, Result, Ok, Err, IsOk, IfOk, OnOk, is_ok, is_err, if◌then◌else◌, refl, sym, ◌∙◌, ap, subst}
use Rattle.std.proofs.lemmas.Bool.{false≢true}
use Rattle.srv_edge.specs.Contents.{shown}
use Rattle.srv_edge.specs.Disk.{splice, Follows, Among, Only, Elapses}
use Rattle.srv_edge.specs.Torn.{torn-same}
use Rattle.srv_edge.specs.Kinds.{place_of, IsStill, IsChange, step_of}
use Rattle.srv_edge.specs.Replay.{State, IsImageOf, after_kind, state_of, LeftSince, Adds, KeepsAs}
use Rattle.srv_edge.specs.Past.{elapses_by, elapses_same, state_added, still_among}
use Rattle.srv_edge.specs.declared.memory_record.Call.{Call}
use Rattle.srv_edge.specs.declared.memory_record.CallKind.{CallKind}
use Rattle.srv_edge.specs.declared.memory_record.CallKind.TheVariants.{Size, Read, Write, Super, Sync}
use Rattle.srv_edge.specs.declared.memory_record.Contents.{Contents}
use Rattle.srv_edge.proofs.Padded.{with_head-splice}

-- a call that was pushed
pub adds_pushed : (before calls after : List Call) (call : Call) (kind : CallKind) (bytes : List ℕ) (done : Bool) → calls ≡ before → after ≡ calls ++ call ∷ [] → call.kind ≡ kind → call.bytes.items ≡ bytes → call.done ≡ done → Adds before kind bytes done after
adds_pushed before calls after call kind bytes done same pushed k b d =
    record { call = call; added = pushed ∙ ap (λ cs. cs ++ call ∷ []) same; of_kind = k; of_bytes = b; as_done = d }

-- what a push left that had room
pub if_ok : {A E X : Type 0} (r : Result A E) (x y z : X) → IsOk r → z ≡ (if is_ok r then x else y) → z ≡ x
if_ok (Ok a) x y z ok is = is
if_ok (Err e) x y z ok is = cc

-- a weaker fact of what came at Ok
pub if_ok_then : {A E : Type 0} (r : Result A E) (P Q : A → Type 0) → ((a : A) → P a → Q a) → IfOk r P → IfOk r Q
if_ok_then (Ok a) P Q less holds = less a holds
if_ok_then (Err e) P Q less holds = tt

-- what holds at Ok, once that is known
pub on_ok : {A E : Type 0} (r : Result A E) (P : Type 0) → false ≡ is_err r → OnOk r P → P
on_ok (Ok a) P is holds = holds
on_ok (Err e) P is holds = absurd (false≢true is)

-- a write that failed leaves what a read gives
pub refused_seen : (s : State) (kind : CallKind) (bytes : List ℕ) → IsChange kind → (after_kind s kind bytes false).seen ≡ s.seen
refused_seen s Size bytes change = refl
refused_seen s (Read at) bytes change = refl
refused_seen s (Write at) bytes change = refl
refused_seen s Super bytes change = refl
refused_seen s Sync bytes change = refl

-- a write that was done
changed_seen : (s : State) (kind : CallKind) (bytes : List ℕ) → IsChange kind → (after_kind s kind bytes true).seen ≡ splice s.seen (place_of kind) bytes
changed_seen s Size bytes change = absurd change
changed_seen s (Read at) bytes change = absurd change
changed_seen s (Write at) bytes change = refl
changed_seen s Super bytes change = sym (with_head-splice s.seen bytes)
changed_seen s Sync bytes change = absurd change

-- what a read gives, as the record has it, after a call that leaves it
pub shows_same : (file file' : Contents) (before after : List Call) (kind : CallKind) (bytes : List ℕ) (done : Bool) → file' ≡ file → Adds before kind bytes done after → ((s : State) → (after_kind s kind bytes done).seen ≡ s.seen) → shown file ≡ (state_of file.first.items before).seen → shown file' ≡ (state_of file'.first.items after).seen
shows_same file file' before after kind bytes done is adds same was =
    let P : Contents → Type 0 = λ f. shown f ≡ (state_of f.first.items after).seen in
    let now = ap (λ (s : State). s.seen) (state_added file.first.items before kind bytes done after adds) ∙ same (state_of file.first.items before) in
    subst P (sym is) (was ∙ sym now)

-- and after a write that is done
pub shows_changed : (file file' : Contents) (before after : List Call) (kind : CallKind) (bytes : List ℕ) → file'.first.items ≡ file.first.items → shown file' ≡ splice (shown file) (place_of kind) bytes → Adds before kind bytes true after → IsChange kind → shown file ≡ (state_of file.first.items before).seen → shown file' ≡ (state_of file'.first.items after).seen
shows_changed file file' before after kind bytes first done adds change was =
    let s = state_of file.first.items before in
    let now = ap (λ (t : State). t.seen) (state_added file.first.items before kind bytes true after adds) ∙ changed_seen s kind bytes change in
    done ∙ ap (λ xs. splice xs (place_of kind) bytes) was ∙ sym now ∙ ap (λ xs. (state_of xs after).seen) (sym first)

-- time goes on by a call that is kept, or stands still
time_of : {A E : Type 0} (done : Bool) (first : List ℕ) (calls calls' : List Call) (kind : CallKind) (bytes : List ℕ) (result : Result A E) → KeepsAs done calls kind bytes result calls' → Elapses (length calls) (length calls') (LeftSince first calls) (LeftSince first calls') (IsImageOf (state_of first calls'))
time_of done first calls calls' kind bytes (Ok a) keeps = elapses_by first calls keeps.0.call calls' keeps.0.added
time_of done first calls calls' kind bytes (Err e) (inl kept) = elapses_by first calls kept.0.call calls' kept.0.added
time_of done first calls calls' kind bytes (Err e) (inr same) = elapses_same first calls calls' same

pub kept_time : {A E : Type 0} (done : Bool) (first first' : List ℕ) (calls calls' : List Call) (kind : CallKind) (bytes : List ℕ) (result : Result A E) → first' ≡ first → KeepsAs done calls kind bytes result calls' → Elapses (length calls) (length calls') (LeftSince first calls) (LeftSince first' calls') (IsImageOf (state_of first' calls'))
kept_time done first first' calls calls' kind bytes result is keeps =
    let P : List ℕ → Type 0 = λ f. Elapses (length calls) (length calls') (LeftSince first calls) (LeftSince f calls') (IsImageOf (state_of f calls')) in
    subst P (sym is) (time_of done first calls calls' kind bytes result keeps)

-- the images after a call that is no write are among those before
among_of : {A E : Type 0} (done : Bool) (first : List ℕ) (calls calls' : List Call) (kind : CallKind) (bytes : List ℕ) (result : Result A E) → IsStill kind → KeepsAs done calls kind bytes result calls' → Among (IsImageOf (state_of first calls)) (IsImageOf (state_of first calls'))
among_of done first calls calls' kind bytes (Ok a) still keeps = still_among first calls kind bytes true calls' still keeps.0
among_of done first calls calls' kind bytes (Err e) still (inl kept) = still_among first calls kind bytes false calls' still kept.0
among_of done first calls calls' kind bytes (Err e) still (inr same) =
    λ c image. let P : List Call → Type 0 = λ cs. IsImageOf (state_of first cs) c in subst P same image

pub kept_among : {A E : Type 0} (done : Bool) (first first' : List ℕ) (calls calls' : List Call) (kind : CallKind) (bytes : List ℕ) (result : Result A E) → first' ≡ first → IsStill kind → KeepsAs done calls kind bytes result calls' → Among (IsImageOf (state_of first calls)) (IsImageOf (state_of first' calls'))
kept_among done first first' calls calls' kind bytes result is still keeps =
    let P : List ℕ → Type 0 = λ f. Among (IsImageOf (state_of first calls)) (IsImageOf (state_of f calls')) in
    subst P (sym is) (among_of done first calls calls' kind bytes result still keeps)

-- what a write leaves, whether it was done or not
change_image : (s : State) (kind : CallKind) (bytes : List ℕ) (done : Bool) (c : List ℕ) → IsChange kind → IsImageOf (after_kind s kind bytes done) c → (d : List ℕ) × IsImageOf s d × step_of kind bytes d c
change_image s Size bytes done c change image = absurd change
change_image s (Read at) bytes done c change image = absurd change
change_image s (Write at) bytes done c change image = image
change_image s Super bytes done c change image = image
change_image s Sync bytes done c change image = absurd change

-- a write that is not begun
no_step : (kind : CallKind) (bytes c : List ℕ) → step_of kind bytes c c
no_step Size bytes c = refl
no_step (Read at) bytes c = refl
no_step (Write at) bytes c = torn-same at (length bytes) c
no_step Super bytes c = inl refl
no_step Sync bytes c = refl

change_follows : (first : List ℕ) (calls calls' : List Call) (kind : CallKind) (bytes : List ℕ) (done : Bool) → IsChange kind → Adds calls kind bytes done calls' → Follows (step_of kind bytes) (IsImageOf (state_of first calls)) (IsImageOf (state_of first calls'))
change_follows first calls calls' kind bytes done change adds c image =
    let P : State → Type 0 = λ t. IsImageOf t c in
    change_image (state_of first calls) kind bytes done c change (subst P (state_added first calls kind bytes done calls' adds) image)

follows_of : {A E : Type 0} (done : Bool) (first : List ℕ) (calls calls' : List Call) (kind : CallKind) (bytes : List ℕ) (result : Result A E) → IsChange kind → KeepsAs done calls kind bytes result calls' → Follows (step_of kind bytes) (IsImageOf (state_of first calls)) (IsImageOf (state_of first calls'))
follows_of done first calls calls' kind bytes (Ok a) change keeps = change_follows first calls calls' kind bytes true change keeps.0
follows_of done first calls calls' kind bytes (Err e) change (inl kept) = change_follows first calls calls' kind bytes false change kept.0
follows_of done first calls calls' kind bytes (Err e) change (inr same) =
    λ c image. let P : List Call → Type 0 = λ cs. IsImageOf (state_of first cs) c in (c, subst P same image, no_step kind bytes c)

pub kept_follows : {A E : Type 0} (done : Bool) (first first' : List ℕ) (calls calls' : List Call) (kind : CallKind) (bytes : List ℕ) (result : Result A E) → first' ≡ first → IsChange kind → KeepsAs done calls kind bytes result calls' → Follows (step_of kind bytes) (IsImageOf (state_of first calls)) (IsImageOf (state_of first' calls'))
kept_follows done first first' calls calls' kind bytes result is change keeps =
    let P : List ℕ → Type 0 = λ f. Follows (step_of kind bytes) (IsImageOf (state_of first calls)) (IsImageOf (state_of f calls')) in
    subst P (sym is) (follows_of done first calls calls' kind bytes result change keeps)

-- a sync that is done settles what a read gives
sync_only : (first seen : List ℕ) (calls calls' : List Call) → seen ≡ (state_of first calls).seen → Adds calls Sync [] true calls' → Only seen (IsImageOf (state_of first calls'))
sync_only first seen calls calls' was adds c image =
    let P : State → Type 0 = λ t. IsImageOf t c in
    let now : c ≡ (state_of first calls).seen = subst P (state_added first calls Sync [] true calls' adds) image in now ∙ sym was

only_of : {A E : Type 0} (done : Bool) (first seen : List ℕ) (calls calls' : List Call) (result : Result A E) → seen ≡ (state_of first calls).seen → KeepsAs done calls Sync [] result calls' → OnOk result (Only seen (IsImageOf (state_of first calls')))
only_of done first seen calls calls' (Ok a) was keeps = sync_only first seen calls calls' was keeps.0
only_of done first seen calls calls' (Err e) was keeps = tt

pub kept_only : {A E : Type 0} (done : Bool) (first first' seen : List ℕ) (calls calls' : List Call) (result : Result A E) → first' ≡ first → seen ≡ (state_of first calls).seen → KeepsAs done calls Sync [] result calls' → OnOk result (Only seen (IsImageOf (state_of first' calls')))
kept_only done first first' seen calls calls' result is was keeps =
    let P : List ℕ → Type 0 = λ f. OnOk result (Only seen (IsImageOf (state_of f calls'))) in
    subst P (sym is) (only_of done first seen calls calls' result was keeps)
