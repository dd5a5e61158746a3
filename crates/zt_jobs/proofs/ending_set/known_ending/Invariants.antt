use Rattle.zt_jobs.specs.ProofsOnly.FoundKoids.{found}
use Rattle.zt_jobs.proofs.MemberLaws.{IsWalked}
use Rattle.zt_jobs.proofs.ending_set.known_ending.Given as goal

abbrev pub invariant-loop : goal.invariant-loop
invariant-loop l = IsWalked l.step.current l.fn.task (found l.known) l.waiting.items
