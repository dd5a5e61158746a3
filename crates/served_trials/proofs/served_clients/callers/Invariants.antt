-- Each pass so far has its reader and its writer, of which nothing has failed.
use Rattle.std.proofs.Common.{◌≡◌, map}
use Rattle.std.specs.Prelude.{All}
use Rattle.zt_console.specs.Sessions.{IsCountable}
use Rattle.served_trials.proofs.served_clients.callers.Given as goal

abbrev pub invariant-loop-pass : goal.invariant-loop-pass
invariant-loop-pass g l = record {
  passes : map (λ caller. caller.2) l.callers.items ≡ l.yielded;
  counts : All IsCountable l.callers.items;
}
