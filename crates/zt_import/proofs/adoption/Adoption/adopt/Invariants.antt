-- No call of the log was asked so far, and the process that stands for the log's is known.
use Rattle.zt_import.specs.ProofsOnly.TakenCalls.{IsAdopting}
use Rattle.zt_import.proofs.adoption.Adoption.adopt.Given as goal

abbrev pub invariant-loop-batch : goal.invariant-loop-batch
invariant-loop-batch l = IsAdopting l.fn.taken l.taken l.fn.numbers.processes l.numbers.processes
