-- The calls so far stand in front of those left.
use Rattle.std.proofs.Common.{◌≡◌, ℕ, List, true, length}
use Rattle.zt_rows.specs.declared.calls.Call.{Call}
use Rattle.zt_text.specs.Session.{has_call}
use Rattle.zt_text.specs.SessionCalls.{calls_left}
use Rattle.zt_text.proofs.SessionCallLemmas.{behind}
use Rattle.zt_text.proofs.session_calls.SessionCalls.read_rest.Given as goal

abbrev pub invariant-calls : goal.invariant-calls
invariant-calls l = record {
  so_far : (items : List (ℕ × Call)) × (calls_left l.fn.self ≡ behind items (calls_left l.self));
  has : has_call l.self.lines ≡ true → has_call l.fn.self.lines ≡ true;
}

abbrev pub decreases-calls : goal.decreases-calls
decreases-calls l = length l.self.lines
