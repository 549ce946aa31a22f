-- The workers of a server, each by the pass of its desk.
use Rattle.std.specs.Prelude.{◌≡◌, ◌+◌, ⊤, ℕ, zero, suc, List, [], ◌∷◌, length}
use Rattle.atomic_table.specs.Seated.{TableId}
use Rattle.turnstile.specs.Histories.{Begins}
use Rattle.turnstile.specs.Passes.{PassView}
use Rattle.turnstile.specs.declared.view.Ended.{Ended}
use Rattle.hub.specs.Ends.{AreEnded}

-- the number of a pass, and the numbers of the turnstile that it belongs to
abbrev pub badge : TableId → ℕ → List ℕ
badge gate number = number ∷ gate.words ∷ gate.slots ∷ gate.views_name ∷ gate.atom ∷ gate.block ∷ gate.offset ∷ gate.slot_names

abbrev pub badge_of : PassView → List ℕ
badge_of p = badge p.turnstile p.number

-- those of so many passes of a turnstile, with the numbers from this on
abbrev pub badges_from : TableId → ℕ → ℕ → List (List ℕ)
badges_from gate number zero = []
badges_from gate number (suc count) = badge gate number ∷ badges_from gate (number + 1) count

-- Passes that were retired one after another have the numbers from this on, and each commit of theirs has ended.
abbrev pub AreRetiredFrom : ℕ → List Ended → Type 0
AreRetiredFrom number [] = ⊤
AreRetiredFrom number (e ∷ ended) = (e.number ≡ number) × AreEnded e.calls × AreRetiredFrom (number + 1) ended

-- What is left of the first pass of a hub behind so many workers: it made no call of its own, and has retired the pass of each.
pub record IsLeftBy (workers : ℕ) (old new : PassView) : Type 0 where
  pub seen : Begins old.seen new.seen
  pub same : new ≡ record old { seen = new.seen; made = workers + 1; ended = new.ended }
  pub retired : AreRetiredFrom 1 new.ended
  pub count : length new.ended ≡ workers
