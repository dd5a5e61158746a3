-- The ancestor that is left to be reached is the one that is sought.
use Rattle.std.proofs.Common.{◌≡◌, ◌-◌, ◌≤◌, length}
use Rattle.zt_history.specs.Tree.{path}
use Rattle.zt_book.specs.Session.{ancestor}
use Rattle.zt_book.proofs.session_state.commands.ancestor.Given as goal

abbrev pub invariant-loop : goal.invariant-loop
invariant-loop l = record {
  far : l.count - l.counter ≤ length (path l.history.tree.made l.at);
  same : ancestor (path l.history.tree.made l.at) (l.count - l.counter) ≡ ancestor (path l.history.tree.made l.fn.moment) l.count;
}
