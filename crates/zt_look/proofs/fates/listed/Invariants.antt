-- So far the list has the fates below this number.
use Rattle.std.proofs.Common.{◌≡◌}
use Rattle.zt_look.specs.ProofsOnly.FatesSoFar.{shown}
use Rattle.zt_look.specs.ProofsOnly.NumbersBelow.{told_below}
use Rattle.zt_look.proofs.fates.listed.Given as goal

abbrev pub invariant-loop-number : goal.invariant-loop-number
invariant-loop-number l = l.list.items ≡ told_below (shown l.store.state l.all_times) l.number
