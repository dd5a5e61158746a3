use Rattle.std.proofs.Common.{◌≡◌, ◌≤◌, ◌++◌, length, drop, ap, ◌∙◌}
use Rattle.zt_text.specs.ProofsOnly.Notes.{last_end}
use Rattle.zt_text.proofs.PieceLemmas.{ends_within}
use Rattle.zt_text.proofs.NoteLemmas.{ends_left, last_by, note_left}
use Rattle.zt_text.proofs.notes_reader.NotesReader.leave_waiting.Goals as goal

pub split_at-requires : goal.split_at-requires
split_at-requires c =
    let at = last_by c.self.inside.ends c.len.result c.after-last.result c.after-last.ensures c.len.ensures in
    let within : last_end 0 c.self.inside.ends ≤ length c.self.inside.notes.items = ends_within 0 c.self.inside.ends (length c.self.inside.notes.items) c.self.invariant in
    rw (at, c.as_slice-notes.ensures.value) within

pub invariant_of-self-2 : goal.invariant_of-self-2
invariant_of-self-2 c =
    let at = last_by c.self.inside.ends c.len.result c.after-last.result c.after-last.ensures c.len.ensures in
    ends_left c.self.inside.notes.items c.self.inside.ends c.truncate.new.self.items c.after-last.result c.self.invariant at c.truncate.ensures.items

pub returns : goal.returns
returns c =
    let at = last_by c.self.inside.ends c.len.result c.after-last.result c.after-last.ensures c.len.ensures in
    let left : c.extend_from_slice.new.self.items ≡ c.self.inside.rest.items ++ drop c.after-last.result c.self.inside.notes.items =
    c.in_ok-extend_from_slice.ensures.items ∙ ap (λ w. c.self.inside.rest.items ++ w) (c.split_at.ensures.back ∙ ap (drop c.after-last.result) c.as_slice-notes.ensures.value) in
    rw (← c.self.view_is)
    (note_left c.self.inside.notes.items c.self.inside.ends c.self.inside.rest.items c.self.inside.names.items c.truncate.new.self.items c.extend_from_slice.new.self.items
    c.after-last.result c.self.invariant at c.truncate.ensures.items left)
