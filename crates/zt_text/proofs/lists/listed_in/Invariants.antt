use Rattle.std.proofs.Common.{◌≡◌}
use Rattle.zt_text.specs.Fields.{parts_of}
use Rattle.zt_text.specs.ProofsOnly.Cut.{parts_left, length_left}
use Rattle.zt_text.specs.Lists.{each_handle}
use Rattle.zt_text.proofs.ListLemmas.{behind}
use Rattle.zt_text.proofs.lists.listed_in.Given as goal

-- the handles so far stand in front of those of the elements left
abbrev pub invariant-loop-left : goal.invariant-loop-left
invariant-loop-left l = each_handle (parts_of 44 l.field) ≡ behind l.values.items (each_handle (parts_left 44 l.left))

abbrev pub decreases-loop-left : goal.decreases-loop-left
decreases-loop-left l = length_left l.left
