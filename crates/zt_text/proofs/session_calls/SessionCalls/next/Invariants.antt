-- The lines left give what all gave.
use Rattle.std.proofs.Common.{◌≡◌, ◌+◌, ◌<◌, ◌^◌, length}
use Rattle.zt_text.specs.Lines.{lines_of}
use Rattle.zt_text.specs.SessionCalls.{next_in}
use Rattle.zt_text.proofs.session_calls.SessionCalls.next.Given as goal

abbrev pub invariant-lines : goal.invariant-lines
invariant-lines l = record {
  so_far : next_in l.self-inside.number (lines_of l.self-inside.left.now) ≡ next_in l.fn.self.number l.fn.self.lines;
  room : l.self-inside.number + length l.self-inside.left.now < 2 ^ 64;
}

abbrev pub decreases-lines : goal.decreases-lines
decreases-lines l = length l.self-inside.left.now
