-- So far the list has what stands under the keys that were gone over.
use Rattle.std.proofs.Common.{◌≡◌, map, take}
use Rattle.zt_look.specs.ProofsOnly.RecordSides.{change_under}
use Rattle.zt_look.proofs.changes.changes_by.Given as goal

abbrev pub invariant-loop-key : goal.invariant-loop-key
invariant-loop-key l = l.list.items ≡ map (change_under l.kept l.store.state) (take l.key-index l.key-items)
