use Rattle.std.proofs.Common.{sym, ap}
use Rattle.zt_rows.specs.declared.keys.RowKey.TheVariants as key
use Rattle.zt_cells.specs.ProofsOnly.RowTables.{sizes_of}
use Rattle.zt_cells.proofs.RowTableLaws.{exchanged-Object}
use Rattle.zt_cells.proofs.cells.row_tables.RowTables.exchange_alike.Goals as goal

pub returns-clause-done : goal.returns-clause-done
unfolding sizes_of
returns-clause-done c =
    λ t. let e = c.exchange_alike.ensures.done t in
    exchanged-Object c.args.self.now (key.Object c.args.koid) _ _ _ _ (ap key.Object (sym c.koid.view_is)) c.requires e.put e.was
