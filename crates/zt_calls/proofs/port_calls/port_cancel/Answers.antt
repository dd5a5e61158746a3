use Rattle.std.proofs.Common.{sym, ◌∙◌}
use Rattle.zt_calls.proofs.PortCallLaws.{cancel-refused}
use Rattle.zt_calls.proofs.port_calls.port_cancel.Goals as goal

pub returns-then-not-branch-clause-does : goal.returns-then-not-branch-clause-does
returns-then-not-branch-clause-does c =
    cancel-refused c.args.step.now.current c.args.process c.args.port c.args.source c.args.key
    c.in_ok-held.held c.in_ok-held.field-0-1 c.in_ok-handle_to.field-0 c.in_ok-held.ensures c.in_ok-handle_to.ensures
    (sym c.in_ok-cancel.ensures.any ∙ c.if-not-branch.true)
    c.args.step.now c.cancel.new.step c.in_ok-cancel.ensures.ok
