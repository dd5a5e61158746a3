-- So far the list has the kinds of the changes that were gone over.
use Rattle.std.proofs.Common.{◌≡◌, map, take}
use Rattle.zt_look.specs.Signaled.{kind_in}
use Rattle.zt_look.proofs.signaled.kinds_after.Given as goal

abbrev pub invariant-loop-change : goal.invariant-loop-change
invariant-loop-change l = l.kinds.items ≡ map (λ change. kind_in l.store.state change.after) (take l.change-index l.changes)
