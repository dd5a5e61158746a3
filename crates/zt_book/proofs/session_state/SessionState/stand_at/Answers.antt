-- The moment is there or not; it is, and the client stands at it.
use Rattle.std.proofs.Common.{length, ap, arith}
use Rattle.zt_book.specs.ProofsOnly.SessionState.{SessionStateView}
use Rattle.zt_book.proofs.SessionStateLaws.{goto-far, goto-seen}
use Rattle.zt_book.proofs.session_state.SessionState.stand_at.Goals as goal

pub returns-then-moment-end-clause-refused : goal.returns-then-moment-end-clause-refused
returns-then-moment-end-clause-refused c =
    goto-far c.args.self.now.session c.args.client c.args.moment
    (omega (arith, c.if-moment-end.true, c.end.view_is, c.moment.view_is, c.last-end.ensures.last, ap (λ (d : SessionStateView). length d.session.tree.made) c.self.view_is))

pub returns-clause-ok : goal.returns-clause-ok
returns-clause-ok c =
    goto-seen c.args.self.now.session c.stand.new.self.session c.args.client c.args.moment
    (omega (arith, c.if-moment-end.false, c.end.view_is, c.moment.view_is, c.last-end.ensures.last, ap (λ (d : SessionStateView). length d.session.tree.made) c.self.view_is))
    c.stand.ensures.session
