use Rattle.std.proofs.Common.{◌≡◌, ◌++◌, map}
use Rattle.zt_text.specs.ProofsOnly.Cut.{length_left, parts_left}
use Rattle.zt_notes.specs.Annotations.{annotated_element, annotated_field, shown_field}
use Rattle.zt_notes.proofs.shown_lines.put_field.Given as goal

-- the elements that are left complete the field
abbrev pub invariant-loop-left : goal.invariant-loop-left
invariant-loop-left l =
    l.lines.items ++ shown_field (map (annotated_element l.notes l.process l.field) (parts_left 44 l.left)) ≡ l.initial.lines.items ++ shown_field (annotated_field l.notes l.walk l.word)

abbrev pub decreases-loop-left : goal.decreases-loop-left
decreases-loop-left l = length_left l.left
