-- The history goes forth along the path, and each moment that takes the handle from its place gives a step or its end.
use Rattle.std.proofs.Common.{◌+◌, take, sym, subst, ap}
use Rattle.zt_history.specs.Timeline.{IsPath}
use Rattle.zt_history.specs.Tree.{Tree}
use Rattle.zt_lineage.proofs.WayLaws.{front, front-one}
use Rattle.zt_lineage.proofs.LifeLaws.{stands-at}
use Rattle.zt_lineage.proofs.handle_life.push_onward.Goals as goal

pub along-requires : goal.along-requires
along-requires c = front c.args.history.now.tree.made c.limits.ensures.moments.falls c.args.way.now c.requires.path c.args.n c.requires.within

pub target_at-to-requires : goal.target_at-to-requires
target_at-to-requires c = stands-at c.args.history.now.tree.made c.limits.ensures.moments.falls c.args.way.now c.requires.path c.loop-n.n c.index-way-n.result c.loop-n-test.true c.loop-n.history (ap (λ (t : Tree). t.made) c.loop-n.invariant.tree) c.loop-n.invariant.stands c.index-way-n.is

pub end_at-how-requires : goal.end_at-how-requires
end_at-how-requires c = stands-at c.args.history.now.tree.made c.limits.ensures.moments.falls c.args.way.now c.requires.path c.loop-n.n c.index-way-n.result c.loop-n-test.true c.loop-n.history (ap (λ (t : Tree). t.made) c.loop-n.invariant.tree) c.loop-n.invariant.stands c.index-way-n.is

pub along-requires-in-loop-n : goal.along-requires-in-loop-n
along-requires-in-loop-n c =
    subst (λ (t : Tree). IsPath t.made (take (c.loop-n.n + 1) c.args.way.now)) (sym c.loop-n.invariant.tree) (front-one c.args.history.now.tree.made c.limits.ensures.moments.falls c.args.way.now c.requires.path c.loop-n.n c.loop-n-test.true)
