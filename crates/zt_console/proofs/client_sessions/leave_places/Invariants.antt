-- The clients so far have left their places, and there is room for the others.
use Rattle.std.proofs.Common.{◌≡◌, ◌≤◌, length, map}
use Rattle.std.specs.Prelude.{vec_len, vec_capacity}
use Rattle.std.specs.List.{filter_map}
use Rattle.zt_console.specs.ProofsOnly.ClientSessions.{served_at, pass_at}
use Rattle.zt_console.proofs.client_sessions.leave_places.Given as goal

abbrev pub invariant-loop-place : goal.invariant-loop-place
invariant-loop-place g l = record {
  served : l.served.items ≡ map served_at l.yielded;
  passes : l.passes.items ≡ filter_map pass_at l.yielded;
  one : vec_len l.served ≡ length l.yielded;
  most : vec_len l.passes ≤ length l.yielded;
  room_served : length l.fn.places.items ≤ vec_capacity l.served;
  room_passes : length l.fn.places.items ≤ vec_capacity l.passes;
}
