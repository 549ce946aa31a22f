-- What a call answers that may want memory.
use Rattle.std.specs.Prelude.{◌≡◌, ◌⊎◌}

-- The call gives the answer that it is to give, and leaves what it is to leave; or it wants memory,
-- which is only where it may, and leaves all as it was.
abbrev pub AnswersOrWants : {R S : Type 0} → R → Type 0 → R → S → R → S → S → Type 0
AnswersOrWants wants may_want answer after result old new =
    ((result ≡ answer) × (new ≡ after)) ⊎ ((result ≡ wants) × may_want × (new ≡ old))
