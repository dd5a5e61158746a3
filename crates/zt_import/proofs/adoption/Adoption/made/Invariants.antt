-- No call of the log was asked so far.
use Rattle.zt_import.specs.ProofsOnly.TakenCalls.{IsAside}
use Rattle.zt_import.proofs.adoption.Adoption.made.Given as goal

abbrev pub invariant-loop-object : goal.invariant-loop-object
invariant-loop-object l = IsAside l.fn.taken l.taken
