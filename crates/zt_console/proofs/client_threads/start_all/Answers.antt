-- One client more has its thread.
use Rattle.std.proofs.Common.{[], ◌∷◌, ◌++◌, sym, subst, arith}
use Rattle.std.specs.List.{AllZip}
use Rattle.std.proofs.lemmas.List.{length_push}
use Rattle.zt_console.specs.ProofsOnly.ClientSessions.{IsStartedFor}
use Rattle.zt_console.proofs.ServeLaws.{zip_more}
use Rattle.zt_console.proofs.client_threads.start_all.Goals as goal

pub loop-place-preserved : goal.loop-place-preserved
loop-place-preserved g c =
    let now = c.loop-place in let place = c.in-Some.place in let pushed = c.push_reserved.ensures in
    record {
      started = subst (AllZip (IsStartedFor g.I.Read.remaining g.O.Write.contents) (now.yielded ++ place ∷ [])) (sym pushed.items) (zip_more (IsStartedFor g.I.Read.remaining g.O.Write.contents) now.yielded now.threads.items place c.start.result now.invariant.started c.start.ensures);
      one = let n = length_push now.yielded place in omega (arith, n, pushed.len, now.invariant.one);
      room = omega (arith, pushed.capacity, now.invariant.room);
    }
