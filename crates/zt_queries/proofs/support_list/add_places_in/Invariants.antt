-- What is left of the handles gives the rest of the places.
use Rattle.std.proofs.Common.{◌≡◌, ◌++◌, drop}
use Rattle.zt_rows.specs.Support.{places}
use Rattle.zt_queries.proofs.support_list.add_places_in.Given as goal

abbrev pub invariant-loop-i : goal.invariant-loop-i
invariant-loop-i l =
    l.list.items ++ places l.koid l.endpoint l.number l.i (drop l.i l.handles) ≡ l.fn.list.items ++ places l.koid l.endpoint l.number 0 l.handles
