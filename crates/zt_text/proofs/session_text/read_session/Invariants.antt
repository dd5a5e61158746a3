-- The calls so far stand in front of those left.
use Rattle.std.proofs.Common.{◌≡◌, true, length}
use Rattle.zt_text.specs.Session.{has_call, session_has_call, session_of}
use Rattle.zt_text.specs.SessionCalls.{calls_left}
use Rattle.zt_text.proofs.SessionCallLemmas.{behind}
use Rattle.zt_text.proofs.session_text.read_session.Given as goal

abbrev pub invariant-calls : goal.invariant-calls
invariant-calls l = record {
  so_far : session_of l.text ≡ behind l.calls.items (calls_left l.left);
  has : has_call l.left.lines ≡ true → session_has_call l.text ≡ true;
}

abbrev pub decreases-calls : goal.decreases-calls
decreases-calls l = length l.left.lines
