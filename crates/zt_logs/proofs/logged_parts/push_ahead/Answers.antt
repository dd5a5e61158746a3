-- One call more.
use Rattle.std.proofs.Common.{◌∙◌, ap, subst, arith}
use Rattle.std.specs.Option.{option_to_list}
use Rattle.zt_logs.specs.declared.line_calls.PartCall.{PartCall}
use Rattle.zt_logs.specs.declared.logged.RecordedReply.{RecordedReply}
use Rattle.zt_logs.proofs.PartLaws.{ahead_none, ahead_next, ahead_all}
use Rattle.zt_logs.specs.Logged.{IsPart}
use Rattle.zt_logs.proofs.logged_parts.push_ahead.Goals as goal

pub loop-ahead-init : goal.loop-ahead-init
loop-ahead-init c = ahead_none c.args.head.line c.args.head.count c.args.status c.args.parts.now c.args.calls.now.items

pub loop-ahead-preserved : goal.loop-ahead-preserved
loop-ahead-preserved c =
    ahead_next c.args.head.line c.args.head.count c.args.status c.args.parts.now c.loop-ahead.ahead c.index-parts-ahead.result c.call.result c.args.calls.now.items
    c.loop-ahead.calls.items c.push_logged.new.calls.items c.loop-ahead-test.true c.index-parts-ahead.is c.loop-ahead.invariant c.in_ok-push_logged.ensures
    (subst (λ part. IsPart c.args.head.line c.args.head.count c.loop-ahead.ahead part c.call.result) c.in_ok-part.ensures c.call.ensures.part)
    (ap (λ (r : RecordedReply). r.status) c.call.ensures.recorded ∙ c.in_ok-recorded.ensures.status)
    (ap (λ (r : RecordedReply). r.handles) c.call.ensures.recorded ∙ c.in_ok-recorded.ensures.handles ∙ ap (λ (p : PartCall). option_to_list p.given) c.in_ok-part.ensures)

pub returns : goal.returns
returns c =
    ahead_all c.args.head.line c.args.head.count c.args.status c.args.parts.now c.loop-ahead.ahead c.args.calls.now.items c.loop-ahead.calls.items
    (omega (arith, c.loop-ahead-test.false)) c.loop-ahead.invariant
