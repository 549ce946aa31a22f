use Rattle.std.proofs.Common.{◌-◌, subst, sym}
use Rattle.request_frames.proofs.Finishing.{finishes}
use Rattle.request_frames.proofs.Serving.{SoFar, ends_by_input, goes_on, none_so_far, served}
use Rattle.request_frames.proofs.serve.serve_link.Goals as goal

pub frames-init : goal.frames-init
frames-init g c = none_so_far g.L.Source g.L.Sink g.K.Desk c.args.limit c.args.link.now c.args.desk.now

pub serve_next-requires : goal.serve_next-requires
serve_next-requires g c = c.frames.invariant.is_version

pub frames-preserved : goal.frames-preserved
frames-preserved g c =
    let on = goes_on g.L.Source g.L.Sink g.K.Desk c.args.limit c.args.link.now c.args.desk.now c.frames.version c.frames.budget c.frames.link c.serve_next.new.link c.frames.desk c.serve_next.new.desk c.serve_next.new.room.frame c.frames.invariant c.in-GoesOn.next c.in-GoesOn.ensures in
    subst (λ n. SoFar g.L.Source g.L.Sink g.K.Desk c.args.limit c.args.link.now c.args.desk.now c.in-GoesOn.next (c.frames.budget - n) c.serve_next.new.link c.serve_next.new.desk) (sym c.len.ensures) on

pub returns-in-Ends-clause-serves : goal.returns-in-Ends-clause-serves
returns-in-Ends-clause-serves g c =
    served g.L.Source g.L.Sink g.K.Desk c.args.limit c.args.link.now c.args.desk.now c.frames.version c.frames.budget c.frames.link c.serve_next.new.link c.frames.desk c.serve_next.new.desk c.serve_next.new.room.frame c.frames.invariant c.in-Ends.end c.in-Ends.ensures

pub returns-in-Ends-clause-end : goal.returns-in-Ends-clause-end
returns-in-Ends-clause-end g c =
    let s = served g.L.Source g.L.Sink g.K.Desk c.args.limit c.args.link.now c.args.desk.now c.frames.version c.frames.budget c.frames.link c.serve_next.new.link c.frames.desk c.serve_next.new.desk c.serve_next.new.room.frame c.frames.invariant c.in-Ends.end c.in-Ends.ensures in
    ends_by_input g.L.Source g.L.Sink g.K.Desk c.args.limit c.args.link.now c.args.desk.now c.serve_next.new.link c.serve_next.new.desk c.in-Ends.end s

pub returns-in-Ends-clause-finished : goal.returns-in-Ends-clause-finished
returns-in-Ends-clause-finished g c = λ is.
    let s = served g.L.Source g.L.Sink g.K.Desk c.args.limit c.args.link.now c.args.desk.now c.frames.version c.frames.budget c.frames.link c.serve_next.new.link c.frames.desk c.serve_next.new.desk c.serve_next.new.room.frame c.frames.invariant c.in-Ends.end c.in-Ends.ensures in
    finishes g.L.Source g.L.Sink g.K.Desk c.args.limit c.args.link.now c.serve_next.new.link c.args.desk.now c.serve_next.new.desk c.in-Ends.end is s
