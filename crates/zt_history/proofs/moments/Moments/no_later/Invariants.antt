-- So far what is no later than the limit is on the one path where it is on the other.
use Rattle.std.proofs.Common.{◌≡◌, ℕ, ◌≤◌}
use Rattle.zt_rows.specs.Tests.{among}
use Rattle.zt_history.specs.Tree.{path}
use Rattle.zt_history.proofs.moments.Moments.no_later.Given as goal

abbrev pub invariant-loop-limit : goal.invariant-loop-limit
invariant-loop-limit l = (m : ℕ) → m ≤ l.fn.limit → among (path l.self.made l.at) m ≡ among (path l.self.made l.fn.from) m

abbrev pub decreases-loop-limit : goal.decreases-loop-limit
decreases-loop-limit l = l.at
