-- So far the list has the rows that differ among those that were gone over.
use Rattle.std.proofs.Common.{◌≡◌, take}
use Rattle.std.specs.List.{flat_map}
use Rattle.zt_look.specs.ProofsOnly.TwoStates.{change_from}
use Rattle.zt_look.proofs.changes_between.changes_from.Given as goal

abbrev pub invariant-loop-key : goal.invariant-loop-key
invariant-loop-key l = l.list.items ≡ flat_map (change_from l.store.state) (take l.key-index l.rows)
