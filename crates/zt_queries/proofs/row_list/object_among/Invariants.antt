-- The row is looked for behind those that were passed.
use Rattle.std.proofs.Common.{◌≡◌, drop}
use Rattle.std.specs.FinMap.Entries as entries
use Rattle.zt_rows.specs.declared.keys.RowKey.TheVariants as key
use Rattle.zt_rows.specs.Keys.{rowkey_cmp}
use Rattle.zt_queries.proofs.row_list.object_among.Given as goal

abbrev pub invariant-loop-key : goal.invariant-loop-key
invariant-loop-key l = entries.find rowkey_cmp (key.Object l.koid) (drop l.key-index l.rows) ≡ entries.find rowkey_cmp (key.Object l.koid) l.rows
