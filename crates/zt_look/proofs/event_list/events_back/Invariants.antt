-- So far the list has the events of the moments that were gone back over, the last first, and the set is that of the moment up to
-- which the path is still to be gone back.
use Rattle.std.proofs.Common.{◌≡◌, ◌≤◌, true, drop, take}
use Rattle.std.specs.Prelude.{reverse}
use Rattle.zt_history.specs.Tree.{end_of, state_at}
use Rattle.zt_look.specs.EventList.{AreEvents}
use Rattle.zt_look.specs.ProofsOnly.UnleakedSet.{IsUnleakedSet}
use Rattle.zt_look.proofs.event_list.events_back.Given as goal

abbrev pub invariant-loop-place : goal.invariant-loop-place
invariant-loop-place l = record {
  start : l.start ≤ l.place;
  tree : l.history.tree ≡ l.fn.history.tree;
  events : AreEvents l.fn.history.tree.made l.asked (drop l.place l.way) (reverse l.list.items);
  unleaked : l.asked.leaked ≡ true → IsUnleakedSet (state_at l.fn.history.tree.made (end_of (take l.place l.way))) l.set;
}
