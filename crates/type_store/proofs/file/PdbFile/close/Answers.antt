use Rattle.std.proofs.Common.{subst}
use Rattle.table_model.specs.Bounds.{bounds_of}
use Rattle.type_store.specs.Files.{FileView, IsShown}
use Rattle.type_store.specs.Inside.{cuts_of}
use Rattle.type_store.proofs.Shown.{shown}
use Rattle.type_store.proofs.file.PdbFile.close.Goals as goal

pub returns-clause-shown : goal.returns-clause-shown
returns-clause-shown g c =
    let f = c.self.inside in
    subst (λ (v : FileView g.row.D.Denot). IsShown g.D.Device.may_leave v) c.self.view_is
    (λ image left. shown (bounds_of f.origin.limits) f.store.limit (g.D.Device.seen f.store.device) f.store.file (cuts_of f.before f.newest) image c.self.invariant.limit
    (c.self.invariant.cuts (g.met.D.Device.told f.store.device image left)) (c.image-image.ensures.shows image left))
