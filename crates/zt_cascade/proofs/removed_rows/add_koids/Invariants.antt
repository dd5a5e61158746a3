use Rattle.std.proofs.Common.{◌≡◌, ◌++◌, take}
use Rattle.zt_cascade.specs.ProofsOnly.RemovedObject.{koids}
use Rattle.zt_cascade.proofs.removed_rows.add_koids.Given as goal

abbrev pub invariant-loop-held : goal.invariant-loop-held
invariant-loop-held l = l.list.items ≡ l.fn.list.items ++ koids (take l.held-index l.handles)
