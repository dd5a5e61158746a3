-- The calls so far, with those left behind them, are all.
use Rattle.std.proofs.Common.{◌≡◌, length}
use Rattle.zt_console.specs.ProofsOnly.LoadedText.{with_left}
use Rattle.zt_console.proofs.loaded_text.put_calls.Given as goal

abbrev pub invariant-calls : goal.invariant-calls
invariant-calls g l = with_left l.row l.left ≡ with_left l.fn.row l.fn.calls

abbrev pub decreases-calls : goal.decreases-calls
decreases-calls g l = length l.left.lines
