-- The record of the moment has the row, or it is the same; each moment of the tree has its record.
use Rattle.std.proofs.Common.{sym, ◌∙◌, ap}
use Rattle.std.specs.Option.{option_copied}
use Rattle.zt_look.specs.ProofsOnly.RecordSides.{row_before}
use Rattle.zt_look.proofs.DepartureLaws.{recorded-row}
use Rattle.zt_look.proofs.TwoStateLaws.{recorded-there}
use Rattle.zt_look.proofs.object_handles.row_after.Goals as goal

pub returns-in-Some : goal.returns-in-Some
returns-in-Some c =
    c.row_before.ensures
    ∙ ap (row_before c.in-Some.kept.now c.args.key.now) c.row-before.ensures
    ∙ recorded-row c.args.history.now.tree.made c.limits.ensures.tree.moments.falls c.args.history.now.position c.args.moment c.in-Some.kept.now c.store.result.now.state c.args.key.now
    c.requires.parent (sym c.record_of.ensures ∙ ap option_copied c.in-Some.is) c.store.ensures.state

pub returns-in-None : goal.returns-in-None
returns-in-None c =
    absurd (
    recorded-there c.args.history.now.tree.made c.args.history.now.position c.args.moment c.requires.made c.requires.there
    (sym c.record_of.ensures ∙ ap option_copied c.in-None.is)
    )
