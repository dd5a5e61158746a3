use Rattle.std.proofs.Common.{sym, ◌∙◌}
use Rattle.zt_cascade.proofs.LeavingLaws.{behind-absent, behind-other}
use Rattle.zt_cascade.proofs.removed_rows.cut_link.Goals as goal

pub returns-in_default-clause-ok : goal.returns-in_default-clause-ok
returns-in_default-clause-ok c = behind-absent c.args.went c.args.koid c.args.step.now.current (sym (rw c.store.ensures at c.object.ensures) ∙ c.in_default.is)

pub returns-then-not-has_peer-clause-ok : goal.returns-then-not-has_peer-clause-ok
returns-then-not-has_peer-clause-ok c =
    behind-other c.args.went c.args.koid c.args.step.now.current c.in-Some.object c.requires (sym (rw c.store.ensures at c.object.ensures) ∙ c.in-Some.is)
    (sym c.has_peer.ensures ∙ c.if-not-has_peer.true)
