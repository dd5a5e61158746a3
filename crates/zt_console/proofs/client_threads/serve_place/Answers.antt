-- Who is turned away was told nothing.
use Rattle.std.proofs.Common.{refl}
use Rattle.zt_console.proofs.ServeLaws.{turned_away}
use Rattle.zt_console.proofs.client_threads.serve_place.Goals as goal

pub returns-then-load-client_of : goal.returns-then-load-client_of
returns-then-load-client_of g c = turned_away g.I.Read.remaining g.O.Write.contents c.args.place _ refl
