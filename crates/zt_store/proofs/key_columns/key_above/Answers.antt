use Rattle.std.proofs.Common.{Some, sym, ap, ◌∙◌}
use Rattle.zt_rows.specs.Room.{next_key}
use Rattle.zt_store.proofs.ColumnLaws.{counters-next}
use Rattle.zt_store.proofs.key_columns.key_above.Goals as goal

pub returns-in-Counters : goal.returns-in-Counters
returns-in-Counters c =
    c.key_from.ensures ∙ counters-next c.args.cells.now.state ∙ ap (λ low. next_key c.args.cells.now.state (Some low)) (sym c.in-Counters.is)
