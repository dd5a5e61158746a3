use Rattle.std.proofs.Common.{◌≤◌, length, ◌-◌}
use Rattle.zt_text.specs.ProofsOnly.Cut.{IsClear}
use Rattle.zt_text.proofs.separator.first_of.Given as goal

-- no separator stands among the bytes that are seen
abbrev pub invariant-loop-seen : goal.invariant-loop-seen
invariant-loop-seen l = record {
  inside : l.seen ≤ length l.bytes;
  others : IsClear l.separator l.bytes 0 l.seen;
}

abbrev pub decreases-loop-seen : goal.decreases-loop-seen
decreases-loop-seen l = length l.bytes - l.seen
