-- The call is made at the last moment.
use Rattle.std.proofs.Common.{ap, ◌∙◌}
use Rattle.zt_book.specs.ProofsOnly.Log.{fault_at}
use Rattle.zt_book.proofs.GrowingRows.{row-made, row-not-made}
use Rattle.zt_book.proofs.calls_in_a_row.CallsInARow.push.Goals as goal

pub returns-in-Err-clause-refused : goal.returns-in-Err-clause-refused
returns-in-Err-clause-refused c =
    row-not-made c.self.inside.history.tree c.last-parent.result c.args.process c.args.call c.self.invariant c.last-parent.ensures.last c.last-parent.ensures.few
    c.in-Err.reason c.in-Err.ensures.refused c.args.self.now c.self.view_is c.fault.result
    (c.fault.ensures ∙ ap (λ n. fault_at n c.in-Err.reason) (c.from.ensures ∙ c.parent.view_is))

pub invariant_of-self-2 : goal.invariant_of-self-2
invariant_of-self-2 c =
    row-made c.self.inside.history.tree c.last-parent.result c.args.process c.args.call c.self.invariant c.last-parent.ensures.last c.last-parent.ensures.few
    c.make_at.new.history.tree c.in_default.ensures.ok
