-- So far the set has the keys that were gone over, beside those that it had.
use Rattle.std.proofs.Common.{◌≡◌, ◌||◌, take}
use Rattle.std.specs.BTreeSet.{contains}
use Rattle.zt_rows.specs.declared.keys.RowKey.{RowKey}
use Rattle.zt_rows.specs.Keys.{rowkey_cmp}
use Rattle.zt_look.specs.ProofsOnly.TwoStates.{is_key_of}
use Rattle.zt_look.proofs.changes_between.add_all.Given as goal

abbrev pub invariant-loop-key : goal.invariant-loop-key
invariant-loop-key l = (k : RowKey) → contains rowkey_cmp l.keys k ≡ (contains rowkey_cmp l.fn.keys k || is_key_of (take l.key-index l.more) k)
