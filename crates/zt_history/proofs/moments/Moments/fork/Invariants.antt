-- So far both went up their paths alone.
use Rattle.std.proofs.Common.{◌+◌}
use Rattle.zt_history.specs.ProofsOnly.Forks.{IsAbove}
use Rattle.zt_history.proofs.moments.Moments.fork.Given as goal

abbrev pub invariant-loop-far : goal.invariant-loop-far
invariant-loop-far l = record {
  near : IsAbove l.self.made l.near l.fn.one;
  far : IsAbove l.self.made l.far l.fn.other;
}

abbrev pub decreases-loop-far : goal.decreases-loop-far
decreases-loop-far l = l.near + l.far
