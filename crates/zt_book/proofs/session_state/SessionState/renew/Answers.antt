-- The clients stand where they stood.
use Rattle.zt_book.proofs.RenewLaws.{renewed-clients}
use Rattle.zt_book.proofs.session_state.SessionState.renew.Goals as goal

pub invariant_of-self : goal.invariant_of-self
invariant_of-self c =
    renewed-clients c.self.inside.history c.self.inside.clients.items _ c.self.inside.grown c.self.invariant c.forget_answers.ensures
