-- The number that is looked at becomes smaller.
use Rattle.zt_logs.proofs.process_names.last_free.Given as goal

abbrev pub decreases-loop-number : goal.decreases-loop-number
decreases-loop-number l = l.number
