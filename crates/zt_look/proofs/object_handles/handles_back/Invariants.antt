-- So far the list has the handles that come at the moments that were gone back over, the last first, and it is noted how those
-- leave that are there before them.
use Rattle.std.proofs.Common.{◌≡◌, drop, take}
use Rattle.std.specs.Prelude.{reverse}
use Rattle.std.specs.BTreeMap.{get}
use Rattle.zt_history.specs.Tree.{end_of, state_at}
use Rattle.zt_lineage.specs.Places.{place_cmp}
use Rattle.zt_look.specs.ObjectHandles.{handles_along}
use Rattle.zt_look.specs.ProofsOnly.Departures.{AreDepartures}
use Rattle.zt_look.proofs.object_handles.handles_back.Given as goal

abbrev pub invariant-loop-place : goal.invariant-loop-place
invariant-loop-place l = record {
  listed : reverse l.list.items ≡ handles_along l.fn.history.tree.made l.koid (drop l.place l.way);
  departures : AreDepartures l.fn.history.tree.made l.koid (state_at l.fn.history.tree.made (end_of (take l.place l.way))) (drop l.place l.way) (get place_cmp l.departures);
  tree : l.history.tree ≡ l.fn.history.tree;
}
