-- So far the list has what is asked for of the moments that were gone over.
use Rattle.std.proofs.Common.{◌≡◌, take}
use Rattle.zt_look.specs.CallList.{asked_among}
use Rattle.zt_look.proofs.call_list.calls_standing.Given as goal

abbrev pub invariant-loop-place : goal.invariant-loop-place
invariant-loop-place l = l.list.items ≡ asked_among l.history.tree.made l.asked (take l.place l.way)
