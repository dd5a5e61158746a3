-- What differs of the left steps so far is compared.
use Rattle.std.proofs.Common.{◌≡◌, take}
use Rattle.std.specs.List.{filter_map}
use Rattle.zt_import.specs.Trails.{difference_at}
use Rattle.zt_import.specs.ProofsOnly.TakenCalls.{IsComparedAs}
use Rattle.zt_import.proofs.differences.compare_all.Given as goal

abbrev pub invariant-loop-place : goal.invariant-loop-place
invariant-loop-place l =
    (l.taken ≡ l.fn.taken) × IsComparedAs (filter_map (difference_at l.calls l.taken.tree.made l.asked.items) (take l.place l.left)) l.compared
