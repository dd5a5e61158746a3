-- The clients so far are as new, and the others as they were.
use Rattle.std.proofs.Common.{◌≡◌, map, take, drop}
use Rattle.zt_book.specs.SavedSessions.{client_at}
use Rattle.zt_book.proofs.session_state.forget_answers.Given as goal

abbrev pub invariant-loop-client : goal.invariant-loop-client
invariant-loop-client l =
    (take l.client-index l.client-items ≡ map (λ client. client_at client.cursor) (take l.client-index l.fn.clients.items))
    × (drop l.client-index l.client-items ≡ drop l.client-index l.fn.clients.items)
