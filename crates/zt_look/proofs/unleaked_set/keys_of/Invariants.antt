-- So many keys are listed as stand before the next one.
use Rattle.std.proofs.Common.{◌≡◌, ◌-◌, length, take}
use Rattle.std.specs.List.{slice_get}
use Rattle.zt_rows.specs.Change.{keys}
use Rattle.zt_look.proofs.unleaked_set.keys_of.Given as goal

abbrev pub invariant-loop-next : goal.invariant-loop-next
invariant-loop-next l = record {
  listed : l.list.items ≡ take (length l.list.items) (keys l.store.state);
  following : l.next ≡ slice_get (keys l.store.state) (length l.list.items);
}

abbrev pub decreases-loop-next : goal.decreases-loop-next
decreases-loop-next l = length (keys l.store.state) - length l.list.items
