use Rattle.std.proofs.Common.{◌≡◌, ◌≤◌, IsTrue, refl, subst, sym, ap}
use Rattle.srv_edge.specs.Disk.{LeavesOnly}
use Rattle.srv_edge.proofs.Moments.{weaker}
use Rattle.msf_image.specs.declared.image.Image.{Image}
use Rattle.msf_image.specs.Reads.{IsWhole}
use Rattle.msf_image.specs.Relation.{contents_in}
use Rattle.committer.specs.Left.{IsOnNewest, IsUnchanged}
use Rattle.committer.specs.Stored.{IsSettled, Shows, change_in, Stored, base_of, file_of, newest, settled}
use Rattle.committer.proofs.Changing.{doubt_shows, doubt_stays, doubt_turns, held, new_settled, on_err, told_turning}
use Rattle.committer.proofs.Storing.{newest_is, newest_limited, newest_whole}
use Rattle.committer.proofs.store.Store.settle.Goals as goal

pub invariant_of-self : goal.invariant_of-self
invariant_of-self g c =
    let s = c.self.inside in
    let d = g.D.Device in
    let some = c.if-is_none.ensures in
    let last = c.turn.new.device in
    let turns = doubt_turns s.limit s.image (d.seen s.device) (d.may_leave s.device) s.before some c.self.invariant.holds in
    record {
      most = c.self.invariant.most;
      holds = doubt_stays s.limit s.image (d.seen s.device) (d.may_leave s.device) s.before some c.self.invariant.holds (d.seen last) (d.may_leave last) (λ y now. g.met.D.Device.seen_is_one last (g.met.D.Device.told last y now)) (c.turn.ensures.still _ turns);
    }

pub returns-in_err-turn-clause-any_moment : goal.returns-in_err-turn-clause-any_moment
returns-in_err-turn-clause-any_moment g c =
    let s = c.self.inside in
    let d = g.D.Device in
    let some = c.if-is_none.ensures in
    let turns = doubt_turns s.limit s.image (d.seen s.device) (d.may_leave s.device) s.before some c.self.invariant.holds in
    subst (λ (s : Stored g.row.D.Denot). LeavesOnly d.moment d.left_since s.device c.turn.new.device (Shows s.limit s.file (d.seen s.device))) c.self.view_is
    (weaker d.moment d.left_since s.device c.turn.new.device _ (Shows s.limit (file_of s.before s.image) (d.seen s.device)) (c.turn.ensures.any_moment _ turns)
    (doubt_shows s.limit s.image (d.seen s.device) (d.may_leave s.device) s.before some))

pub returns-in_err-turn-clause-unchanged : goal.returns-in_err-turn-clause-unchanged
returns-in_err-turn-clause-unchanged g c =
    let s = c.self.inside in
    let d = g.D.Device in
    let some = c.if-is_none.ensures in
    let last = c.turn.new.device in
    let file = file_of s.before s.image in
    let turns = doubt_turns s.limit s.image (d.seen s.device) (d.may_leave s.device) s.before some c.self.invariant.holds in
    let whole = subst (λ (i : Image). IsWhole i) (newest_is s.before s.image) (newest_whole s.limit file (d.seen s.device) (d.may_leave s.device) c.self.invariant.holds) in
    let has : IsTrue d.tells → (contents_in (d.seen last) (base_of file) ≡ contents_in (d.seen s.device) (base_of file)) × (contents_in (d.seen last) s.image ≡ contents_in (d.seen s.device) s.image) =
    λ tells. held _ s.image (d.seen last) whole (c.turn.ensures.still _ turns (d.seen last) (g.met.D.Device.seen_is_one last tells)) in
    on_err c.from_residual.result
    (subst (λ (t : Stored g.row.D.Denot). IsUnchanged d.tells t.file (d.seen t.device) file (d.seen last)) c.self.view_is (record {
      is = refl;
      contents = λ tells. subst (λ (i : Image). contents_in (d.seen last) i ≡ contents_in (d.seen s.device) i) (sym (newest_is s.before s.image)) (has tells).1;
      base = λ tells. (has tells).0;
    }))

pub invariant_of-self-2 : goal.invariant_of-self-2
invariant_of-self-2 g c =
    let s = c.self.inside in
    let d = g.D.Device in
    let some = c.if-is_none.ensures in
    let last = c.turn.new.device in
    let file = file_of s.before s.image in
    let turns = doubt_turns s.limit s.image (d.seen s.device) (d.may_leave s.device) s.before some c.self.invariant.holds in
    let whole = subst (λ (i : Image). IsWhole i) (newest_is s.before s.image) (newest_whole s.limit file (d.seen s.device) (d.may_leave s.device) c.self.invariant.holds) in
    let limited = subst (λ (i : Image). i.head.blocks ≤ s.limit) (newest_is s.before s.image) (newest_limited s.limit file (d.seen s.device) (d.may_leave s.device) c.self.invariant.holds) in
    record {
      most = c.self.invariant.most;
      holds = new_settled (change_in s.limit (base_of file) s.image (d.seen s.device)) s.image (d.seen last) (d.may_leave last) (λ y now. g.met.D.Device.seen_is_one last (g.met.D.Device.told last y now)) whole limited (c.in_ok-turn.ensures.done _ turns);
    }

pub returns-clause-any_moment : goal.returns-clause-any_moment
returns-clause-any_moment g c =
    let s = c.self.inside in
    let d = g.D.Device in
    let some = c.if-is_none.ensures in
    let turns = doubt_turns s.limit s.image (d.seen s.device) (d.may_leave s.device) s.before some c.self.invariant.holds in
    subst (λ (s : Stored g.row.D.Denot). LeavesOnly d.moment d.left_since s.device c.turn.new.device (Shows s.limit s.file (d.seen s.device))) c.self.view_is
    (weaker d.moment d.left_since s.device c.turn.new.device _ (Shows s.limit (file_of s.before s.image) (d.seen s.device)) (c.turn.ensures.any_moment _ turns)
    (doubt_shows s.limit s.image (d.seen s.device) (d.may_leave s.device) s.before some))

pub returns-clause-done : goal.returns-clause-done
returns-clause-done g c =
    let s = c.self.inside in
    let d = g.D.Device in
    let last = c.turn.new.device in
    let turns = doubt_turns s.limit s.image (d.seen s.device) (d.may_leave s.device) s.before c.if-is_none.ensures c.self.invariant.holds in
    subst (λ (t : Stored g.row.D.Denot). IsOnNewest d.tells t.file (d.seen t.device) (settled s.image) (d.seen last)) c.self.view_is (record {
      is = ap settled (sym (newest_is s.before s.image));
      contents = λ tells.
          subst (λ (i : Image). contents_in (d.seen last) i ≡ contents_in (d.seen s.device) i) (sym (newest_is s.before s.image))
          (sym (c.in_ok-turn.ensures.done _ turns (d.seen last) (g.met.D.Device.seen_is_one last tells)).0.contents);
    })

pub returns-clause-ready : goal.returns-clause-ready
returns-clause-ready g c =
    let s = c.self.inside in
    let d = g.D.Device in
    let last = c.turn.new.device in
    subst (λ (t : Stored g.row.D.Denot). IsSettled t.limit (newest t.file) (d.seen last) (d.may_leave last)) c.self.view_is
    (subst (λ (i : Image). IsSettled s.limit i (d.seen last) (d.may_leave last)) (sym (newest_is s.before s.image)) (invariant_of-self-2 g c).holds)

pub returns-in_err-turn-clause-told : goal.returns-in_err-turn-clause-told
returns-in_err-turn-clause-told g c =
    let s = c.self.inside in
    let d = g.D.Device in
    let file = file_of s.before s.image in
    let turns = doubt_turns s.limit s.image (d.seen s.device) (d.may_leave s.device) s.before c.if-is_none.ensures c.self.invariant.holds in
    let whole = subst (λ (i : Image). IsWhole i) (newest_is s.before s.image) (newest_whole s.limit file (d.seen s.device) (d.may_leave s.device) c.self.invariant.holds) in
    subst (λ (s : Stored g.row.D.Denot). LeavesOnly d.moment d.left_since s.device c.turn.new.device (λ _. IsTrue d.tells)) c.self.view_is
    (told_turning d.moment d.left_since s.limit (d.may_leave s.device) (d.seen s.device) s.device c.turn.new.device d.tells _ s.image (g.met.D.Device.told s.device) whole (c.turn.ensures.any_moment _ turns) c.turn.ensures.any_moment)

pub returns-clause-told : goal.returns-clause-told
returns-clause-told g c =
    let s = c.self.inside in
    let d = g.D.Device in
    let file = file_of s.before s.image in
    let turns = doubt_turns s.limit s.image (d.seen s.device) (d.may_leave s.device) s.before c.if-is_none.ensures c.self.invariant.holds in
    let whole = subst (λ (i : Image). IsWhole i) (newest_is s.before s.image) (newest_whole s.limit file (d.seen s.device) (d.may_leave s.device) c.self.invariant.holds) in
    subst (λ (s : Stored g.row.D.Denot). LeavesOnly d.moment d.left_since s.device c.turn.new.device (λ _. IsTrue d.tells)) c.self.view_is
    (told_turning d.moment d.left_since s.limit (d.may_leave s.device) (d.seen s.device) s.device c.turn.new.device d.tells _ s.image (g.met.D.Device.told s.device) whole (c.turn.ensures.any_moment _ turns) c.turn.ensures.any_moment)
