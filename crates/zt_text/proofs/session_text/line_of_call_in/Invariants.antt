use Rattle.std.proofs.Common.{◌≡◌, ◌≤◌, ◌+◌, length}
use Rattle.zt_text.specs.Lines.{lines_of}
use Rattle.zt_text.specs.Session.{line_of_call_in}
use Rattle.zt_text.proofs.session_text.line_of_call_in.Given as goal

-- the call is sought among the lines left, behind those before them
abbrev pub invariant-loop-left : goal.invariant-loop-left
invariant-loop-left l = record {
  so_far : line_of_call_in 2 l.call (lines_of l.text) ≡ line_of_call_in l.line l.before (lines_of l.left);
  room : l.line + length l.left ≤ length l.text + 2;
}

abbrev pub decreases-loop-left : goal.decreases-loop-left
decreases-loop-left l = length l.left
