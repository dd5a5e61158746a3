-- No call of the log was asked so far, and the processes that stand for the log's are known.
use Rattle.zt_import.specs.ProofsOnly.TakenCalls.{IsAdopting}
use Rattle.zt_import.proofs.adoption.Adoption.adopt_all.Given as goal

abbrev pub invariant-loop-process : goal.invariant-loop-process
invariant-loop-process l = IsAdopting l.fn.taken l.taken l.fn.numbers.processes l.numbers.processes
