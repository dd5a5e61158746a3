-- What is counted, and what is left to be.
use Rattle.std.proofs.Common.{◌≡◌, ◌+◌, ◌<◌, ◌^◌, length}
use Rattle.zt_text.specs.Lines.{lines_of}
use Rattle.zt_text.specs.SessionCalls.{calls_counted}
use Rattle.zt_text.proofs.session_calls.SessionCalls.count.Given as goal

abbrev pub invariant-lines : goal.invariant-lines
invariant-lines l = record {
  so_far : calls_counted l.fn.self.lines ≡ l.calls + calls_counted (lines_of l.left);
  room : l.calls + length l.left < 2 ^ 64;
}

abbrev pub decreases-lines : goal.decreases-lines
decreases-lines l = length l.left
