-- What some workers have done.
use Rattle.std.specs.Prelude.{◌≡◌, ◌≤◌, ◌<◌, ◌+◌, ◌^◌, ℕ, List, length, All, map, sum_by}

-- Some workers can begin: each has a part of the books, in which nothing is marked yet, and has not served too many links.
pub record CanWork {W : Type 0} (served : W → ℕ) (held links unreturned : ℕ) (workers : List W) : Type 0 where
  pub some : 0 < length workers
  pub parts : length workers ≤ held
  pub taken : links ≡ 0
  pub out : unreturned ≡ 0
  pub few : All (λ w. served w < 2 ^ 62) workers

-- The same workers in the same order have served so many links more.
pub record HaveServed {W : Type 0} (served : W → ℕ) (badge : W → List ℕ) (old new : List W) (count : ℕ) : Type 0 where
  pub links : sum_by served new ≡ sum_by served old + count
  pub badges : map badge new ≡ map badge old
