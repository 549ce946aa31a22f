use Rattle.std.proofs.Common.{◌∙◌}
use Rattle.hub.proofs.Finishing.{ended_added, ended_commits, ended_committed, ended_not_begun}
use Rattle.hub.proofs.Passing.{begins_same, commits}
use Rattle.hub_scenes.proofs.commits.add_within.Goals as goal

pub end_commit-ended-requires-clause-kept : goal.end_commit-ended-requires-clause-kept
end_commit-ended-requires-clause-kept g c = begins_same c.write_out-done.result.kept c.try_begin_commit.new.pass.seen (c.write_out-done.ensures.kept ∙ c.in_ok-out.ensures.begun.kept)

pub returns-in_err-out : goal.returns-in_err-out
returns-in_err-out g c = record { one = (c.try_begin_commit.ensures.idle, ended_not_begun c.in_err-out.ensures.refused c.try_begin_commit.ensures.same c.try_begin_commit.ensures.sound c.requires.one.1); two = c.requires.two }

pub returns : goal.returns
returns g c =
    let whole = commits c.args.one.now c.try_begin_commit.new.pass c.end_commit-ended.new.pass c.in_ok-out.out c.write_out-done.result c.end_commit-ended.result c.in_ok-out.ensures.begun c.end_commit-ended.ensures.ended c.try_begin_commit.ensures.same.1 c.write_out-done.ensures.basis c.write_out-done.ensures.kept in
    let second = ended_committed c.commit-second.ensures.reply c.commit-second.ensures.same c.commit-second.ensures.sound c.requires.two.1 in
    record { one = (c.end_commit-ended.ensures.idle, ended_commits whole c.requires.one.1); two = (c.add_type-added.ensures.idle, ended_added c.add_type-added.ensures.reply second) }
