-- The calls so far were asked, they are the log's, the processes that stand for the log's are known, and so are the steps that may not
-- agree.
use Rattle.std.proofs.Common.{take}
use Rattle.zt_import.specs.ProofsOnly.TakenCalls.{HasRun, Leaves}
use Rattle.zt_import.proofs.run_log.run_all.Given as goal

abbrev pub invariant-loop-place : goal.invariant-loop-place
invariant-loop-place l =
    HasRun l.calls (take l.place l.order) l.taken l.numbers.processes × Leaves l.calls l.taken.tree.made l.taken.trail l.left.items
