use Rattle.std.proofs.Common.{◌≡◌, ◌-◌, IfOk, [], None, subst, sym}
use Rattle.std.specs.Prelude.{slice_index_or, unwrap_or}
use Rattle.msf_image.specs.declared.image.Image.{Image}
use Rattle.msf_image.specs.Relation.{contents_in}
use Rattle.committer.specs.Stored.{IsSettledFile, Stored, newest}
use Rattle.committer.proofs.Storing.{newest_is, settled_reads}
use Rattle.committer.proofs.store.Store.read_stream.Goals as goal

pub returns-clause-stream : goal.returns-clause-stream
returns-clause-stream g c = λ tells some.
    let s = c.self.inside in
    let settled = subst (λ (s : Stored g.row.D.Denot). IsSettledFile s.file) (sym c.self.view_is) c.requires.settled in
    let reads = settled_reads s.limit s.before s.image (g.D.Device.seen s.device) _ settled c.self.invariant.holds (g.met.D.Device.seen_is_one s.device tells) in
    let told = c.read_stream.ensures.stream s.limit _ tells some reads in
    let P = λ (image : Image). IfOk c.read_stream.result (λ bytes. bytes.items ≡ unwrap_or (slice_index_or (contents_in (g.D.Device.seen s.device) image) (c.args.stream - 1) None) []) in
    subst (λ (s : Stored g.row.D.Denot). IfOk c.read_stream.result (λ bytes. bytes.items ≡ unwrap_or (slice_index_or (contents_in (g.D.Device.seen s.device) (newest s.file)) (c.args.stream - 1) None) [])) c.self.view_is
    (subst P (sym (newest_is s.before s.image)) told)
