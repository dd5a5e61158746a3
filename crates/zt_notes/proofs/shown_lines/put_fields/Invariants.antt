use Rattle.std.proofs.Common.{◌≡◌, ◌++◌}
use Rattle.zt_text.specs.Fields.{fields_of}
use Rattle.zt_text.specs.ProofsOnly.Cut.{length_left, parts_left}
use Rattle.zt_notes.specs.Walks.{start}
use Rattle.zt_notes.specs.Annotations.{annotated_fields, shown_fields}
use Rattle.zt_notes.proofs.shown_lines.put_fields.Given as goal

-- the fields that are left complete the line
abbrev pub invariant-loop-left : goal.invariant-loop-left
invariant-loop-left l =
    l.lines.items ++ shown_fields (annotated_fields l.notes l.walk (parts_left 32 l.left)) ≡ l.initial.lines.items ++ shown_fields (annotated_fields l.notes (start l.shape) (fields_of l.line))

abbrev pub decreases-loop-left : goal.decreases-loop-left
decreases-loop-left l = length_left l.left
