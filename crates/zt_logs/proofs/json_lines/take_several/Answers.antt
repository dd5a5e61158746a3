-- The calls that the line is.
use Rattle.std.proofs.Common.{subst}
use Rattle.zt_logs.specs.ProofsOnly.ReadLines.{AddsParts, calls_in}
use Rattle.zt_logs.specs.ProofsOnly.Tokens.{data_at}
use Rattle.zt_logs.proofs.LineCallLaws.{calls_added}
use Rattle.zt_logs.proofs.json_lines.take_several.Goals as goal

pub returns-clause-calls : goal.returns-clause-calls
returns-clause-calls c =
    let line = data_at c.args.line.now.whole.value in
    let args = data_at c.args.args.now.value in
    let parts = calls_in c.in_ok-parts.parts.ahead.items c.in_ok-parts.parts.last in
    calls_added c.args.log.now.lines c.args.name line args c.args.options parts c.in_ok-recorded.recorded c.args.log.now.calls.items c.push_parts.new.calls.items
    c.requires.args c.requires.options c.in_ok-parts.ensures c.in_ok-recorded.ensures
    (subst (λ n. AddsParts n parts c.in_ok-recorded.recorded c.args.log.now.calls.items c.push_parts.new.calls.items) c.head_in-head.ensures.line
    c.in_ok-push_parts.ensures)
