-- So far the list has what is told of the koids below this number.
use Rattle.std.proofs.Common.{◌≡◌}
use Rattle.zt_look.specs.ProofsOnly.AliveSoFar.{alive_shown}
use Rattle.zt_look.specs.ProofsOnly.NumbersBelow.{told_below}
use Rattle.zt_look.proofs.alive_list.alive_here.Given as goal

abbrev pub invariant-loop-number : goal.invariant-loop-number
invariant-loop-number l = l.list.items ≡ told_below (alive_shown l.history.tree.made l.history.position l.since) l.number
