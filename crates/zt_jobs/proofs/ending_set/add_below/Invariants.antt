use Rattle.std.proofs.Common.{◌≡◌, ◌&&◌, ◌||◌, ℕ}
use Rattle.zt_jobs.specs.ProofsOnly.FoundKoids.{found}
use Rattle.zt_index.specs.Criteria.{is_below, objects_where}
use Rattle.zt_jobs.specs.ProofsOnly.EndingWalk.{IsNoted}
use Rattle.zt_jobs.proofs.BelowLaws.{is_passed, left_above}
use Rattle.zt_jobs.proofs.ending_set.add_below.Given as goal

-- what was passed on the way is known, and nothing else was added
abbrev pub invariant-tasks : goal.invariant-tasks
invariant-tasks l = record {
  known : (x : ℕ) → found l.known x ≡ (found l.fn.known x || (objects_where l.step.current (is_below l.parent) x && is_passed l.low x));
  noted : IsNoted (found l.fn.known) l.fn.waiting.items (found l.known) l.waiting.items;
}

abbrev pub decreases-tasks : goal.decreases-tasks
decreases-tasks l = left_above l.low
