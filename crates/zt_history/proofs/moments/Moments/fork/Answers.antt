-- What is above a moment is above what that is above.
use Rattle.zt_history.proofs.ForkLaws.{above-above}
use Rattle.zt_history.proofs.moments.Moments.fork.Goals as goal

pub loop-far-preserved-then-gt : goal.loop-far-preserved-then-gt
loop-far-preserved-then-gt c = record {
  near = above-above c.args.self.now.made c.beyond_run-near.result c.loop-far.near c.args.one c.beyond_run-near.ensures.above c.loop-far.invariant.near;
  far = c.loop-far.invariant.far;
}

pub loop-far-preserved : goal.loop-far-preserved
loop-far-preserved c = record {
  near = c.loop-far.invariant.near;
  far = above-above c.args.self.now.made c.beyond_run-far.result c.loop-far.far c.args.other c.beyond_run-far.ensures.above c.loop-far.invariant.far;
}
