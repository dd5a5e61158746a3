use Rattle.std.proofs.Common.{refl, sym, ◌∙◌}
use Rattle.zt_rows.specs.declared.keys.RowKey.TheVariants as key
use Rattle.zt_signals.specs.ProofsOnly.WaitGroups.{picks}
use Rattle.zt_signals.specs.DroppedWaits.{is_wait_where}
use Rattle.zt_signals.proofs.ColumnLaws.{row-stays}
use Rattle.zt_signals.proofs.wait_group.drop_if.Goals as goal

pub returns-else-is_picked-clause-ok : goal.returns-else-is_picked-clause-ok
returns-else-is_picked-clause-ok c =
    let test = is_wait_where (picks c.args.picked.now) in
    (refl, sym (row-stays test c.args.step.now.current (key.Wait c.args.number) (sym c.is_picked.ensures ∙ c.if-is_picked.false)))
