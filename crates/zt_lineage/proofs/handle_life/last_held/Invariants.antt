-- So far no later moment's state holds a handle at the place.
use Rattle.std.proofs.Common.{◌≡◌, length}
use Rattle.zt_lineage.specs.Lives.{last_held}
use Rattle.zt_lineage.proofs.handle_life.last_held.Given as goal

abbrev pub invariant-loop-n : goal.invariant-loop-n
invariant-loop-n l = record {
  held : last_held l.fn.history.tree.made l.way (length l.way) l.place ≡ last_held l.fn.history.tree.made l.way l.n l.place;
  tree : l.history.tree ≡ l.fn.history.tree;
}
