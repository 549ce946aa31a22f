use Rattle.std.proofs.Common.{ℕ, List, subst}
use Rattle.msf_image.specs.Relation.{Reads, contents_in}
use Rattle.committer.specs.Stored.{Shows, Stored, newest, settled_file}
use Rattle.committer.proofs.Storing.{settles, shown}
use Rattle.committer.proofs.store.Store.image.Goals as goal

pub returns-clause-shows : goal.returns-clause-shows
returns-clause-shows g c =
    subst (λ (s : Stored g.row.D.Denot). (y : List ℕ) → g.D.Device.may_leave s.device y → Shows s.limit s.file (g.D.Device.seen s.device) y) c.self.view_is
    (shown _ _ _ _ c.self.invariant.holds)

pub returns-clause-settles : goal.returns-clause-settles
returns-clause-settles g c = λ tells.
    subst (λ (s : Stored g.row.D.Denot). Reads (settled_file s.file (g.D.Device.seen s.device)) s.limit (newest s.file) (contents_in (g.D.Device.seen s.device) (newest s.file))) c.self.view_is
    (settles _ _ _ _ c.self.invariant.holds (g.met.D.Device.seen_is_one c.self.inside.device tells))
