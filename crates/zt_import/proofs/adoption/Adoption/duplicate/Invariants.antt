-- No call of the log was asked so far.
use Rattle.zt_import.specs.ProofsOnly.TakenCalls.{IsAside}
use Rattle.zt_import.proofs.adoption.Adoption.duplicate.Given as goal

abbrev pub invariant-loop-again : goal.invariant-loop-again
invariant-loop-again l = IsAside l.fn.taken l.taken
