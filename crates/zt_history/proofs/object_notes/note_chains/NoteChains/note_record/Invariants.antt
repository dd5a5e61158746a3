-- So far what is under the keys that were gone over is noted.
use Rattle.std.proofs.Common.{◌≡◌, ◌++◌, map, take}
use Rattle.zt_history.specs.ProofsOnly.ObjectNotes.{IsLonger, notes_under}
use Rattle.zt_history.proofs.object_notes.note_chains.NoteChains.note_record.Given as goal

abbrev pub invariant-loop-place : goal.invariant-loop-place
invariant-loop-place l = record {
  notes : l.self ≡ l.fn.self ++ notes_under l.fn.moment l.change l.store.state (take l.place (map (λ e. e.0) l.change));
  kept : IsLonger l.fn.self l.self;
}
