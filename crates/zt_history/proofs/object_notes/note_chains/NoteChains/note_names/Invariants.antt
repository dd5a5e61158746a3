-- The released names among the handles looked at so far are noted.
use Rattle.std.proofs.Common.{◌≡◌, ◌++◌, take}
use Rattle.zt_rows.specs.State.{row}
use Rattle.zt_history.specs.ProofsOnly.ObjectNotes.{IsLonger, gone_names}
use Rattle.zt_history.proofs.object_notes.note_chains.NoteChains.note_names.Given as goal

abbrev pub invariant-loop-held : goal.invariant-loop-held
invariant-loop-held l = record {
  notes : l.self ≡ l.fn.self ++ gone_names l.fn.moment (row l.store.state l.key) l.store.state (take l.held-index l.handles);
  kept : IsLonger l.fn.self l.self;
}
