use Rattle.std.proofs.Common.{◌≡◌, ◌++◌, map}
use Rattle.zt_text.specs.ProofsOnly.Cut.{length_left, parts_left}
use Rattle.zt_notes.specs.Annotations.{annotated, annotated_line, shown_text}
use Rattle.zt_notes.proofs.shown_lines.shown.Given as goal

-- the lines that are left complete the text
abbrev pub invariant-loop-left : goal.invariant-loop-left
invariant-loop-left l =
    l.lines.items ++ shown_text (map (annotated_line l.notes l.shape) (parts_left 10 l.left)) ≡ shown_text (annotated l.notes l.shape l.text)

abbrev pub decreases-loop-left : goal.decreases-loop-left
decreases-loop-left l = length_left l.left
