-- The calls ahead of what is left are those of their lines, and the text that is left becomes shorter.
use Rattle.std.proofs.Common.{length}
use Rattle.zt_logs.specs.ProofsOnly.ReadLines.{IsReadUpTo}
use Rattle.zt_logs.proofs.json_lines.take_lines.Given as goal

abbrev pub invariant-loop-left : goal.invariant-loop-left
invariant-loop-left l = IsReadUpTo l.text l.left l.log.lines l.log.calls.items

abbrev pub decreases-loop-left : goal.decreases-loop-left
decreases-loop-left l = length l.left
