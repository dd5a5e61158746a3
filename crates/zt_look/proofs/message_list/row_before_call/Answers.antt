-- Where the position has a record, the record has the row or it is the same; else nothing changed.
use Rattle.std.proofs.Common.{sym, ◌∙◌, ap}
use Rattle.std.specs.Option.{option_copied}
use Rattle.zt_history.specs.TreeInvariant.{recorded_at}
use Rattle.zt_look.specs.ProofsOnly.RecordSides.{row_before}
use Rattle.zt_look.proofs.MessageLaws.{row-recorded, row-unrecorded}
use Rattle.zt_look.proofs.message_list.row_before_call.Goals as goal

pub returns-in-Some : goal.returns-in-Some
returns-in-Some c =
    c.row_before.ensures
    ∙ ap (row_before c.in-Some.kept.now c.args.key.now) c.row-after.ensures
    ∙ row-recorded c.args.history.now.tree.made c.args.history.now.position c.args.key.now c.store.result.now.state c.store.ensures.state c.limits.ensures.tree.moments.falls c.in-Some.kept.now
    (ap (recorded_at c.args.history.now.tree.made c.args.history.now.position) (sym c.position.ensures.position) ∙ sym c.record_of.ensures ∙ ap option_copied c.in-Some.is)

pub returns-in-None : goal.returns-in-None
returns-in-None c =
    c.row-after.ensures
    ∙ row-unrecorded c.args.history.now.tree.made c.args.history.now.position c.args.key.now c.store.result.now.state c.store.ensures.state c.limits.ensures.within
    (ap (recorded_at c.args.history.now.tree.made c.args.history.now.position) (sym c.position.ensures.position) ∙ sym c.record_of.ensures ∙ ap option_copied c.in-None.is)
