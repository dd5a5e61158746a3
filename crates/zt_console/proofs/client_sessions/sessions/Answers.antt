-- Each client was served up to its part of the log, and all passes are back.
use Rattle.std.proofs.Common.{length, sym, ◌∙◌, ap, subst, arith}
use Rattle.std.specs.Prelude.{All}
use Rattle.std.specs.List.{AllZip}
use Rattle.std.proofs.lemmas.List.{length-map}
use Rattle.zt_console.specs.ProofsOnly.ClientSessions.{place_of, IsToBeServed, HasServed}
use Rattle.zt_console.proofs.ServeLaws.{room_left, all_back, all_closed, all_ended, all_served, all_taken}
use Rattle.zt_console.proofs.client_sessions.sessions.Goals as goal

pub serve_all-places-requires-after_bounds : goal.serve_all-places-requires-after_bounds
serve_all-places-requires-after_bounds g c κs within =
    let many = ap length c.take_places.ensures ∙ length-map c.args.callers.items place_of in
    let all = c.len.ensures ∙ c.args.callers.ok.0 in
    record {
      to_serve = subst (All IsToBeServed) (sym c.take_places.ensures) (all_taken c.args.callers.items c.requires.counts);
      no_thread = c.in-Ok.ensures.empty.1;
      no_place = c.in-Ok.ensures.empty.2;
      threads_fit = omega (arith, many, all, c.in-Ok.ensures.room.1);
      places_fit = omega (arith, many, all, c.in-Ok.ensures.room.2);
    }

pub leave_places-requires-clause-room : goal.leave_places-requires-clause-room
leave_places-requires-clause-room g c =
    let zipped = subst (λ l. AllZip (HasServed g.I.Read.remaining g.O.Write.contents) l c.serve_all-places.result.items) c.take_places.ensures c.serve_all-places.ensures in
    room_left g.I.Read.remaining g.O.Write.contents c.args.callers.items c.serve_all-places.result.items c.len.result _ _ zipped (c.len.ensures ∙ c.args.callers.ok.0) c.in-Ok.ensures.room.3 c.in-Ok.ensures.room.4

pub close_book-book-requires : goal.close_book-book-requires
close_book-book-requires g c =
    let zipped = subst (λ l. AllZip (HasServed g.I.Read.remaining g.O.Write.contents) l c.serve_all-places.result.items) c.take_places.ensures c.serve_all-places.ensures in
    record {
      all = all_back g.I.Read.remaining g.O.Write.contents c.args.callers.items c.serve_all-places.result.items c.leave_places.new.passes.items _ zipped c.leave_places.ensures.passes c.requires.all;
    }

pub returns-clause-log : goal.returns-clause-log
returns-clause-log g c =
    let zipped = subst (λ l. AllZip (HasServed g.I.Read.remaining g.O.Write.contents) l c.serve_all-places.result.items) c.take_places.ensures c.serve_all-places.ensures in
    all_closed g.I.Read.remaining g.O.Write.contents _ c.close_book-book.result.log c.args.callers.items c.serve_all-places.result.items c.leave_places.new.passes.items zipped c.leave_places.ensures.passes c.close_book-book.ensures.log

pub returns-clause-end : goal.returns-clause-end
returns-clause-end g c =
    let zipped = subst (λ l. AllZip (HasServed g.I.Read.remaining g.O.Write.contents) l c.serve_all-places.result.items) c.take_places.ensures c.serve_all-places.ensures in
    all_ended g.I.Read.remaining g.O.Write.contents _ c.close_book-book.result.log c.close_book-book.result.session c.args.callers.items c.serve_all-places.result.items c.leave_places.new.passes.items zipped c.leave_places.ensures.passes
    c.close_book-book.ensures.log c.close_book-book.ensures.end

pub returns-clause-each : goal.returns-clause-each
returns-clause-each g c =
    let zipped = subst (λ l. AllZip (HasServed g.I.Read.remaining g.O.Write.contents) l c.serve_all-places.result.items) c.take_places.ensures c.serve_all-places.ensures in
    all_served g.I.Read.remaining g.O.Write.contents _ c.close_book-book.result.log c.args.callers.items c.serve_all-places.result.items c.leave_places.new.passes.items c.leave_places.new.served.items zipped c.leave_places.ensures.passes c.leave_places.ensures.served c.close_book-book.ensures.log
