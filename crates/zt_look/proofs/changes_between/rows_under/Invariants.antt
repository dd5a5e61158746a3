-- What is copied, with the rows under the keys that are left, is what is asked for.
use Rattle.std.proofs.Common.{◌≡◌, ◌++◌, length}
use Rattle.zt_rows.specs.Change.{rows_under}
use Rattle.zt_look.proofs.changes_between.rows_under.Given as goal

abbrev pub invariant-keys : goal.invariant-keys
invariant-keys l = l.rows.items ++ rows_under l.store.state l.left.keys ≡ rows_under l.store.state l.fn.keys.keys

abbrev pub decreases-keys : goal.decreases-keys
decreases-keys l = length l.left.keys
