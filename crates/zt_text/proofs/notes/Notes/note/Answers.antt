use Rattle.std.proofs.Common.{◌<◌, length}
use Rattle.zt_text.proofs.NoteLemmas.{note_past}
use Rattle.zt_text.proofs.notes.Notes.note.Goals as goal

pub returns-then-number-len : goal.returns-then-number-len
returns-then-number-len c =
    let beyond : length c.self.inside.ends < c.args.moment = rw (← c.len.ensures, ← c.moment.view_is) c.if-number-len.true in
    rw (← c.self.view_is) (note_past c.self.inside.notes.items c.self.inside.ends c.self.inside.rest.items c.self.inside.names.items c.args.moment beyond)
