-- So far the list has the kinds of the changes that were gone over, and the history stands at the first of both moments.
use Rattle.std.proofs.Common.{◌≡◌, map, take}
use Rattle.zt_look.specs.Signaled.{kind_between}
use Rattle.zt_look.proofs.signaled.kinds_between.Given as goal

abbrev pub invariant-loop-place : goal.invariant-loop-place
invariant-loop-place l = l.kinds.items ≡ map (kind_between l.fn.history.tree.made l.fn.from l.fn.to) (take l.place l.changes)
