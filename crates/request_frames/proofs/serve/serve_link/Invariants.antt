use Rattle.request_frames.proofs.Serving.{SoFar}
use Rattle.request_frames.proofs.serve.serve_link.Given as goal

abbrev pub invariant-frames : goal.invariant-frames
invariant-frames g l = SoFar g.L.Source g.L.Sink g.K.Desk l.limit l.initial.link l.initial.desk l.version l.budget l.link l.desk

abbrev pub decreases-frames : goal.decreases-frames
decreases-frames g l = l.budget
