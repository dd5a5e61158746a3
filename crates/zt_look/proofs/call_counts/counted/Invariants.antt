-- So far the calls of the moments that were gone over are counted.
use Rattle.std.proofs.Common.{take}
use Rattle.zt_look.specs.CallCounts.{made_along}
use Rattle.zt_look.specs.ProofsOnly.CountedCalls.{AreCallsCounted}
use Rattle.zt_look.proofs.call_counts.counted.Given as goal

abbrev pub invariant-loop-moment : goal.invariant-loop-moment
invariant-loop-moment l = AreCallsCounted (made_along l.history.tree.made (take l.moment-index l.way)) l.counts
