use Rattle.std.proofs.Common.{inl, ◌∙◌}
use Rattle.hub.proofs.Passing.{begins_same, commits}
use Rattle.hub.proofs.hub.Hub.commit.Goals as goal

pub end_commit-requires-clause-kept : goal.end_commit-requires-clause-kept
end_commit-requires-clause-kept g c = begins_same c.write_out-done.result.kept c.try_begin_commit.new.pass.seen (c.write_out-done.ensures.kept ∙ c.in_ok-out.ensures.begun.kept)

pub returns-clause-reply : goal.returns-clause-reply
returns-clause-reply g c =
    inl (commits c.args.pass.now c.try_begin_commit.new.pass c.end_commit.new.pass c.in_ok-out.out c.write_out-done.result c.end_commit.result c.in_ok-out.ensures.begun c.end_commit.ensures.ended c.try_begin_commit.ensures.same.1 c.write_out-done.ensures.basis c.write_out-done.ensures.kept)
