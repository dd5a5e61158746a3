use Rattle.zt_store.proofs.ColumnLaws.{counters-first}
use Rattle.zt_rows.specs.declared.keys.RowKey.TheVariants as key
use Rattle.zt_store.proofs.key_columns.first_key.Goals as goal

pub returns : goal.returns
returns c = counters-first c.args.cells.now.state (c.limits.ensures.suited key.Counters)
