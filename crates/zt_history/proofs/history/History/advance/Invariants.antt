-- So far nothing moved but the position, whose path with the moments that are left is the one that was to be taken.
use Rattle.std.proofs.Common.{◌≡◌, ◌++◌, length, reverse}
use Rattle.zt_history.specs.Tree.{path}
use Rattle.zt_history.specs.Timeline.{moved_to}
use Rattle.zt_history.proofs.history.History.advance.Given as goal

abbrev pub invariant-loop-next : goal.invariant-loop-next
invariant-loop-next l = record {
  moved : l.self ≡ moved_to l.fn.self l.self.position;
  left : path l.fn.self.tree.made l.self.position ++ reverse l.beyond.items ≡ path l.fn.self.tree.made l.fn.self.position ++ reverse l.fn.beyond.items;
}

abbrev pub decreases-loop-next : goal.decreases-loop-next
decreases-loop-next l = length l.beyond.items
