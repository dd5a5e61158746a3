-- The calls so far, with those left behind them, are all.
use Rattle.std.proofs.Common.{sym, ◌∙◌}
use Rattle.std.proofs.lemmas.Result.{err_from_is_err_and}
use Rattle.zt_console.specs.ProofsOnly.LoadedText.{with_left}
use Rattle.zt_console.proofs.LoadLaws.{not-loaded-so-far}
use Rattle.zt_console.proofs.loaded_text.put_calls.Goals as goal

pub calls-preserved : goal.calls-preserved
calls-preserved g c = c.in_ok-put_next.ensures.whole c.if-branch.true ∙ c.calls.invariant

pub calls-smaller : goal.calls-smaller
calls-smaller g c = c.in_ok-put_next.ensures.shorter c.if-branch.true

pub returns-clause-ok : goal.returns-clause-ok
returns-clause-ok g c = sym c.calls.invariant ∙ c.in_ok-put_next.ensures.end c.if-branch.false

pub returns-in_err-put_next-clause-refused : goal.returns-in_err-put_next-clause-refused
returns-in_err-put_next-clause-refused g c =
    let p = err_from_is_err_and c.from_residual.result c.from_residual.ensures.1 in
    rw (p.1, p.2)
    (not-loaded-so-far c.args.text.now (with_left c.calls.row c.calls.left) (with_left c.args.row.now c.args.calls) c.in_err-put_next.field-0.0 c.calls.invariant
    c.in_err-put_next.ensures.refused)
