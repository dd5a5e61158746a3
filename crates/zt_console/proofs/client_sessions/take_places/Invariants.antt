-- The clients so far have their places, and there is room for the others.
use Rattle.std.proofs.Common.{◌≡◌, ◌≤◌, length, map}
use Rattle.std.specs.Prelude.{vec_capacity}
use Rattle.zt_console.specs.ProofsOnly.ClientSessions.{place_of}
use Rattle.zt_console.proofs.client_sessions.take_places.Given as goal

abbrev pub invariant-loop-caller : goal.invariant-loop-caller
invariant-loop-caller g l = record {
  places : l.places.items ≡ map place_of l.yielded;
  room : length l.fn.callers.items ≤ vec_capacity l.places;
}
