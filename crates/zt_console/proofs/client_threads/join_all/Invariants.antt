-- The threads so far have been joined, and there is room for the others.
use Rattle.std.proofs.Common.{◌≡◌, ◌≤◌, length}
use Rattle.std.specs.Prelude.{vec_len, vec_capacity}
use Rattle.std.specs.List.{AllZip}
use Rattle.zt_console.specs.ProofsOnly.ClientSessions.{IsJoinedTo}
use Rattle.zt_console.proofs.client_threads.join_all.Given as goal

abbrev pub invariant-loop-thread : goal.invariant-loop-thread
invariant-loop-thread g l = record {
  joined : AllZip (IsJoinedTo g.I.Read.remaining g.O.Write.contents) l.yielded l.places.items;
  one : vec_len l.places ≡ length l.yielded;
  room : length l.fn.threads.items ≤ vec_capacity l.places;
}
