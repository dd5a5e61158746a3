-- So far nothing moved but the position, whose path is the way as far as the loop has come.
use Rattle.std.proofs.Common.{◌≡◌, take}
use Rattle.zt_history.specs.Tree.{path}
use Rattle.zt_history.specs.Timeline.{moved_to}
use Rattle.zt_history.proofs.history.History.along.Given as goal

abbrev pub invariant-loop-place : goal.invariant-loop-place
invariant-loop-place l = record {
  moved : l.self ≡ moved_to l.fn.self l.self.position;
  so_far : path l.fn.self.tree.made l.self.position ≡ take l.place l.way;
}
