use Rattle.index_fields.proofs.Rooms.{index_room}
use Rattle.index_fields.proofs.fields.visit_form.Goals as goal

pub visit_run-requires-clause-room : goal.visit_run-requires-clause-room
visit_run-requires-clause-room g c = index_room c.in-Index.space c.args.bytes.now c.args.at (rw c.in-Index.is at c.requires.whole)
