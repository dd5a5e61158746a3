-- There is room for what all threads give back, and each client was served.
use Rattle.std.proofs.Common.{arith}
use Rattle.zt_console.specs.ProofsOnly.ClientSessions.{IsStartedFor}
use Rattle.zt_console.proofs.ServeLaws.{zip_length, all_joined}
use Rattle.zt_console.proofs.client_threads.fn.serve_all.scope.Goals as goal

pub join_all-requires : goal.join_all-requires
join_all-requires g c =
    let many = zip_length (IsStartedFor g.I.Read.remaining g.O.Write.contents) c.captures.waiting.items c.start_all-started.result.items c.start_all-started.ensures in
    record { empty = c.requires.no_place; room = omega (arith, many, c.requires.places_fit) }

pub returns : goal.returns
returns g c =
    all_joined g.I.Read.remaining g.O.Write.contents c.captures.waiting.items c.start_all-started.result.items c.join_all.result.items c.start_all-started.ensures c.join_all.ensures c.requires.to_serve
