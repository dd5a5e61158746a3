use Rattle.std.proofs.Common.{◌≡◌, length}
use Rattle.zt_text.specs.Notes.{has_control}
use Rattle.zt_text.proofs.name_lines.has_control.Given as goal

-- none begins before what is left
abbrev pub invariant-loop-left : goal.invariant-loop-left
invariant-loop-left l = has_control l.bytes ≡ has_control l.left

abbrev pub decreases-loop-left : goal.decreases-loop-left
decreases-loop-left l = length l.left
