use Rattle.std.proofs.Common.{◌≤◌, ◌++◌, [], ◌∷◌, length, take, sym, ap, ◌∙◌, arith}
use Rattle.std.proofs.lemmas.List.{take_all, take_more}
use Rattle.cow_streams.proofs.Loops.{next_free, none_left, searched_more}
use Rattle.cow_streams.proofs.giving.lowest.Goals as goal

pub returns-in_default : goal.returns-in_default
returns-in_default c =
    let xs = c.args.free.now.free in
    let now = c.loop-i.invariant in
    let all : length xs ≤ c.loop-i.i = none_left xs c.loop-i.i c.loop-i.from c.args.free.now.blocks now.searched c.in_default.ensures in
    record { given = now.given ∙ take_all c.loop-i.i xs all ∙ sym (take_all c.args.count xs (omega (arith, all, c.loop-i-test.true))) }

pub overflow_add-from : goal.overflow_add-from
overflow_add-from c =
    let xs = c.args.free.now.free in
    let found = next_free xs c.loop-i.i c.loop-i.from c.in-Some.b c.args.free.now.blocks c.requires.rising c.loop-i.invariant.searched c.in-Some.ensures in
    let inside = c.requires.inside c.loop-i.i 0 found.0 in
    omega (arith, found.1, inside, c.requires.few)

pub loop-i-preserved : goal.loop-i-preserved
loop-i-preserved c =
    let xs = c.args.free.now.free in
    let i = c.loop-i.i in
    let b = c.in-Some.b in
    let now = c.loop-i.invariant in
    let found = next_free xs i c.loop-i.from b c.args.free.now.blocks c.requires.rising now.searched c.in-Some.ensures in
    record {
      given = c.in_ok-push.ensures.items ∙ ap (λ ys. ys ++ b ∷ []) now.given ∙ ap (λ y. take i xs ++ y ∷ []) (sym found.1) ∙ sym (take_more xs i 0 found.0);
      searched = searched_more xs i c.loop-i.from b c.requires.rising now.searched c.in-Some.ensures.enough found.1;
    }
