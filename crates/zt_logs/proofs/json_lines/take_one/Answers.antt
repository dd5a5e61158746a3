-- The call that the line is.
use Rattle.std.proofs.Common.{◌∷◌, [], subst}
use Rattle.zt_logs.specs.LineCalls.{alone}
use Rattle.zt_logs.specs.ProofsOnly.ReadLines.{AddsParts}
use Rattle.zt_logs.specs.ProofsOnly.Tokens.{data_at}
use Rattle.zt_logs.proofs.LineCallLaws.{calls_added, one_call}
use Rattle.zt_logs.proofs.json_lines.take_one.Goals as goal

pub returns-clause-calls : goal.returns-clause-calls
returns-clause-calls c =
    let line = data_at c.args.line.now.whole.value in
    let args = data_at c.args.args.now.value in
    calls_added c.args.log.now.lines c.args.name line args c.args.options (alone c.in_ok-call.call ∷ []) c.in_ok-recorded.recorded c.args.log.now.calls.items
    c.push_one.new.calls.items c.requires.args c.requires.options
    (one_call c.args.name line args c.args.options c.in_ok-call.call c.requires.one c.requires.args c.in_ok-call.ensures) c.in_ok-recorded.ensures
    (subst (λ n. AddsParts n (alone c.in_ok-call.call ∷ []) c.in_ok-recorded.recorded c.args.log.now.calls.items c.push_one.new.calls.items)
    c.head_in-head.ensures.line c.in_ok-push_one.ensures)
