-- A moment that is above the position, and is not it, is above its parent as well.
use Rattle.std.proofs.Common.{◌∙◌}
use Rattle.zt_history.proofs.WayLaws.{moved-again}
use Rattle.zt_history.proofs.ForkLaws.{above-next, back-above, back-less, differ}
use Rattle.zt_history.proofs.history.History.retreat.Goals as goal

pub undo_moment-requires : goal.undo_moment-requires
undo_moment-requires c =
    (above-next c.loop-moment.self.tree.made c.position.ensures.tree.moments.falls c.args.moment c.loop-moment.self.position c.loop-moment.invariant.above
    (λ e. differ c.position.result c.args.moment c.loop-moment-test.ensures (c.position.ensures.position ∙ e))).0

pub loop-moment-smaller : goal.loop-moment-smaller
loop-moment-smaller c =
    back-less c.loop-moment.self c.undo_moment.new.self c.args.moment c.position.ensures.tree.moments.falls c.loop-moment.invariant.above
    (λ e. differ c.position.result c.args.moment c.loop-moment-test.ensures (c.position.ensures.position ∙ e)) c.undo_moment.ensures

pub loop-moment-preserved : goal.loop-moment-preserved
loop-moment-preserved c = record {
  moved = moved-again c.args.self.now c.loop-moment.self c.undo_moment.new.self _ c.loop-moment.invariant.moved c.undo_moment.ensures;
  above =
      back-above c.loop-moment.self c.undo_moment.new.self c.args.moment c.position.ensures.tree.moments.falls c.loop-moment.invariant.above
      (λ e. differ c.position.result c.args.moment c.loop-moment-test.ensures (c.position.ensures.position ∙ e)) c.undo_moment.ensures;
}
