-- The calls so far are loaded, and `main` is there.
use Rattle.std.proofs.Common.{◌≡◌, ◌<◌, length, drop}
use Rattle.zt_book.specs.Log.{loaded, loaded_from}
use Rattle.zt_book.proofs.loaded_history.history_of.Given as goal

abbrev pub invariant-loop-i : goal.invariant-loop-i
invariant-loop-i l = record {
  main : 0 < length l.history.tree.branches;
  so_far : loaded_from l.i l.history.tree (drop l.i l.calls) ≡ loaded l.calls;
}
