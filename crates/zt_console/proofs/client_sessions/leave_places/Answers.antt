-- One client more has left its place.
use Rattle.std.proofs.Common.{[], ◌∷◌, ◌++◌, sym, ◌∙◌, ap, arith}
use Rattle.std.specs.List.{cons_option}
use Rattle.std.proofs.lemmas.List.{length_push}
use Rattle.zt_console.specs.ProofsOnly.ClientSessions.{served_at, pass_at}
use Rattle.zt_console.proofs.ServeLaws.{left_more, map_more}
use Rattle.zt_console.proofs.client_sessions.leave_places.Goals as goal

pub loop-place-preserved : goal.loop-place-preserved
loop-place-preserved g c =
    let n = length_push c.loop-place.yielded c.in-Some.place in
    record {
      served = c.leave_place.ensures.served ∙ ap (λ xs. xs ++ served_at c.in-Some.place ∷ []) c.loop-place.invariant.served ∙ sym (map_more served_at c.loop-place.yielded c.in-Some.place);
      passes = c.leave_place.ensures.passes ∙ ap (λ xs. xs ++ cons_option (pass_at c.in-Some.place) []) c.loop-place.invariant.passes ∙ sym (left_more pass_at c.loop-place.yielded c.in-Some.place);
      one = omega (arith, n, c.leave_place.ensures.one, c.loop-place.invariant.one);
      most = omega (arith, n, c.leave_place.ensures.most, c.loop-place.invariant.most);
      room_served = omega (arith, c.leave_place.ensures.kept_served, c.loop-place.invariant.room_served);
      room_passes = omega (arith, c.leave_place.ensures.kept_passes, c.loop-place.invariant.room_passes);
    }
