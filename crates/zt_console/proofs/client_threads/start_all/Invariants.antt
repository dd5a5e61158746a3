-- The clients so far have their threads, and there is room for the others.
use Rattle.std.proofs.Common.{◌≡◌, ◌≤◌, length}
use Rattle.std.specs.Prelude.{vec_len, vec_capacity}
use Rattle.std.specs.List.{AllZip}
use Rattle.zt_console.specs.ProofsOnly.ClientSessions.{IsStartedFor}
use Rattle.zt_console.proofs.client_threads.start_all.Given as goal

abbrev pub invariant-loop-place : goal.invariant-loop-place
invariant-loop-place g l = record {
  started : AllZip (IsStartedFor g.I.Read.remaining g.O.Write.contents) l.yielded l.threads.items;
  one : vec_len l.threads ≡ length l.yielded;
  room : length l.fn.waiting.items ≤ vec_capacity l.threads;
}
