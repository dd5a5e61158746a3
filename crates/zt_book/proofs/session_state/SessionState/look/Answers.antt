-- The clients stand in the same tree.
use Rattle.zt_book.proofs.RenewLaws.{looked-clients}
use Rattle.zt_book.proofs.session_state.SessionState.look.Goals as goal

pub invariant_of-self : goal.invariant_of-self
invariant_of-self g c = looked-clients c.self.inside.history c.look.new.history c.self.inside.clients.items c.self.inside.grown c.self.invariant c.look.ensures.tree
