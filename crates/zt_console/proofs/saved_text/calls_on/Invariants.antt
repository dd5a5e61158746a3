-- What is copied is what the path gives so far.
use Rattle.std.proofs.Common.{◌≡◌, take}
use Rattle.std.specs.List.{filter_map}
use Rattle.zt_history.specs.Tree.{call_at}
use Rattle.zt_console.proofs.saved_text.calls_on.Given as goal

abbrev pub invariant-loop-moment : goal.invariant-loop-moment
invariant-loop-moment l = l.calls.items ≡ filter_map (call_at l.history.tree.made) (take l.moment-index l.way)
