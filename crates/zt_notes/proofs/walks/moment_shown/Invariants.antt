use Rattle.std.proofs.Common.{◌≡◌}
use Rattle.zt_text.specs.Fields.{fields_of}
use Rattle.zt_text.specs.ProofsOnly.Cut.{length_left, parts_left}
use Rattle.zt_notes.specs.Walks.{moment_shown, start}
use Rattle.zt_notes.proofs.walks.moment_shown.Given as goal

-- the fields that are left tell the moment
abbrev pub invariant-loop-left : goal.invariant-loop-left
invariant-loop-left l =
    moment_shown l.walk (parts_left 32 l.left) ≡ moment_shown (start l.shape) (fields_of l.line)

abbrev pub decreases-loop-left : goal.decreases-loop-left
decreases-loop-left l = length_left l.left
