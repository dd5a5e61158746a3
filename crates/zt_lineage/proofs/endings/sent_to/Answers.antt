use Rattle.std.proofs.Common.{sym, ◌∙◌, ap}
use Rattle.zt_rows.specs.Reads.{entry}
use Rattle.zt_lineage.specs.Lives.{message_place, sent_to}
use Rattle.zt_lineage.proofs.endings.sent_to.Goals as goal

pub returns-in-Entry : goal.returns-in-Entry
returns-in-Entry c =
    c.message_place.ensures
    ∙ ap (λ r. message_place c.args.before.now.state r c.index_of.result) c.entry.ensures
    ∙ ap (message_place c.args.before.now.state (entry c.args.before.now.state c.args.process c.args.handle)) c.index_of.ensures
    ∙ ap (sent_to c.args.before.now.state c.args.process c.args.handle c.args.parcel.now.handles) (sym c.in-Entry.is)
