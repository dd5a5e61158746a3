-- One moment more stands at the last.
use Rattle.std.proofs.Common.{ap, ◌∙◌}
use Rattle.zt_rows.specs.CallsInARow.{as_moment}
use Rattle.zt_text.proofs.SavedLemmas.{row_more}
use Rattle.zt_text.proofs.row_of_calls.moments_of.Goals as goal

pub calls-preserved : goal.calls-preserved
calls-preserved c =
    row_more c.calls.moments.items c.push.new.self.items c.calls.yielded (c.in-Some.process, c.in-Some.call) c.as_moment-parent.result c.calls.invariant
    (c.as_moment-parent.ensures ∙ ap as_moment (c.len-in-calls.ensures ∙ c.calls.moments.ok.0)) c.in_ok-push.ensures.items
