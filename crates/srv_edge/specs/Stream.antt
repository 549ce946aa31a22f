-- What the calls of a source and a sink give and take.
use Rattle.std.specs.Prelude.{◌≡◌, ◌<◌, ℕ, Bool, IsTrue, List, [], ◌++◌, length, take, Result, MatchResult}

-- At Ok n the first n bytes of the slice were given, and at 0 nothing is left. An Err gives nothing.
abbrev pub Takes : {E : Type 0} → List ℕ → List ℕ → Result ℕ E → List ℕ → List ℕ → List ℕ → Type 0
Takes given left result slice given' left' =
    MatchResult result (λ n. (given' ≡ given ++ take n slice) × (left ≡ take n slice ++ left') × (n ≡ 0 → left' ≡ []))
    (λ _. (given' ≡ given) × (left' ≡ left))

-- At Ok n the first n bytes of the piece were taken. An Err takes nothing.
abbrev pub Gives : {E : Type 0} → List ℕ → Result ℕ E → List ℕ → List ℕ → Type 0
Gives taken result piece taken' = MatchResult result (λ n. taken' ≡ taken ++ take n piece) (λ _. taken' ≡ taken)

-- These bytes came from a source, if it tells them: they are given now, and no longer left.
abbrev pub Came : Bool → List ℕ → List ℕ → List ℕ → List ℕ → List ℕ → Type 0
Came tells bytes given left given' left' = IsTrue tells → (given' ≡ given ++ bytes) × (left ≡ bytes ++ left')

-- These bytes went to a sink, if it tells them.
abbrev pub Went : Bool → List ℕ → List ℕ → List ℕ → Type 0
Went tells bytes taken taken' = IsTrue tells → taken' ≡ taken ++ bytes

-- At Ok n so many bytes came from a source and stand behind the others, and at 0 nothing is left in it.
-- At an Err none came.
abbrev pub Fills : {E : Type 0} → Bool → Result ℕ E → List ℕ → List ℕ → List ℕ → List ℕ → List ℕ → List ℕ → Type 0
Fills tells result piece piece' given left given' left' =
    MatchResult result (λ n. (bytes : List ℕ) × (length bytes ≡ n) × (piece' ≡ piece ++ bytes) × Came tells bytes given left given' left' × (n ≡ 0 → IsTrue tells → left' ≡ []))
    (λ _. (piece' ≡ piece) × Came tells [] given left given' left')

-- a front of the bytes went to a sink, and not all of them
abbrev pub WentInPart : Bool → List ℕ → List ℕ → List ℕ → Type 0
WentInPart tells bytes taken taken' =
    (part : List ℕ) × (more : List ℕ) × (bytes ≡ part ++ more) × (0 < length more) × Went tells part taken taken'

-- all of the bytes went to a sink, or at a failure a front of them that is not all
abbrev pub WentAsAnswered : {A E : Type 0} → Bool → Result A E → List ℕ → List ℕ → List ℕ → Type 0
WentAsAnswered tells result bytes taken taken' =
    MatchResult result (λ _. Went tells bytes taken taken') (λ _. WentInPart tells bytes taken taken')

-- What a value tells beside its being a source or a sink: as a link does, which is both.
pub record Told : Type 0 where
  pub bytes : List ℕ
  pub rest : List ℕ
  pub faults : ℕ

abbrev pub nothing_told : Told
nothing_told = record { bytes = []; rest = []; faults = 0 }
