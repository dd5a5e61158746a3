-- Back to the fork, and forth over what is beyond it.
use Rattle.std.proofs.Common.{ap}
use Rattle.zt_history.specs.Timeline.{Timeline}
use Rattle.zt_history.proofs.ForkLaws.{moved-over}
use Rattle.zt_history.proofs.history.History.goto.Goals as goal

pub returns-clause-ok : goal.returns-clause-ok
returns-clause-ok c =
    moved-over c.args.self.now c.forget.new.self c.retreat.new.self c.advance.new.self c.self.inside.moments.made c.fork-fork.result c.args.moment c.in_ok-beyond.beyond.items
    c.self.invariant.kept.moments_stand.falls (ap (λ (h : Timeline). h.tree.made) c.self.view_is) c.forget.ensures c.in_ok-beyond.ensures c.retreat.ensures c.advance.ensures
