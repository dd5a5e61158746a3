-- One thread more was joined.
use Rattle.std.proofs.Common.{[], ◌∷◌, ◌++◌, sym, subst, arith}
use Rattle.std.specs.List.{AllZip}
use Rattle.std.proofs.lemmas.List.{length_push}
use Rattle.zt_console.specs.ProofsOnly.ClientSessions.{IsJoinedTo}
use Rattle.zt_console.proofs.ServeLaws.{zip_more}
use Rattle.zt_console.proofs.client_threads.join_all.Goals as goal

pub loop-thread-preserved : goal.loop-thread-preserved
loop-thread-preserved g c =
    let now = c.loop-thread in let thread = c.in-Some.thread in let pushed = c.push_reserved.ensures in
    record {
      joined = subst (AllZip (IsJoinedTo g.I.Read.remaining g.O.Write.contents) (now.yielded ++ thread ∷ [])) (sym pushed.items) (zip_more (IsJoinedTo g.I.Read.remaining g.O.Write.contents) now.yielded now.places.items thread c.join.result now.invariant.joined c.join.ensures);
      one = let n = length_push now.yielded thread in omega (arith, n, pushed.len, now.invariant.one);
      room = omega (arith, pushed.capacity, now.invariant.room);
    }
