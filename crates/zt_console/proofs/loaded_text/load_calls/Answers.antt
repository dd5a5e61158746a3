-- The calls that are loaded are those of the text.
use Rattle.std.proofs.Common.{◌∙◌, ap, refl, sym}
use Rattle.std.proofs.lemmas.Result.{err_from_is_err_and}
use Rattle.zt_text.specs.SessionCalls.{calls_left, tree_of}
use Rattle.zt_console.specs.ProofsOnly.LoadedText.{with_left}
use Rattle.zt_console.proofs.LoadLaws.{none-before, not-loaded-so-far, row-loaded, row-not-loaded, memory-not-loaded}
use Rattle.zt_console.proofs.loaded_text.load_calls.Goals as goal

pub returns-in_default-clause-refused : goal.returns-in_default-clause-refused
returns-in_default-clause-refused g c = memory-not-loaded c.args.clients c.args.text.now _ refl

pub returns-in_err-put_calls-clause-refused : goal.returns-in_err-put_calls-clause-refused
returns-in_err-put_calls-clause-refused g c =
    let p = err_from_is_err_and c.from_residual.result c.from_residual.ensures.1 in
    rw (p.1, p.2)
    (row-not-loaded c.args.clients c.args.text.now (calls_left c.args.calls) c.in_err-put_calls.field-0.0 c.requires.few
    (c.calls_one_by_one_are_those_of_the_text.ensures.saved c.args.text.now c.args.calls c.requires.all)
    (not-loaded-so-far c.args.text.now (with_left c.in-Ok.row c.args.calls) (calls_left c.args.calls) c.in_err-put_calls.field-0.0
    (none-before c.in-Ok.row c.args.calls c.in-Ok.ensures) c.in_err-put_calls.ensures.refused))

pub returns-in-Ok-finish-clause-ok : goal.returns-in-Ok-finish-clause-ok
returns-in-Ok-finish-clause-ok g c =
    row-loaded c.args.clients c.args.text.now c.put_calls.new.row c.in-Ok-finish.book
    (c.calls_one_by_one_are_those_of_the_text.ensures.saved c.args.text.now c.args.calls c.requires.all
    ∙ ap tree_of (sym (none-before c.in-Ok.row c.args.calls c.in-Ok.ensures) ∙ c.in_ok-put_calls.ensures.ok))
    c.in-Ok-finish.ensures.ok c.in-Ok-finish.ensures.first

pub returns-in-Err-clause-refused : goal.returns-in-Err-clause-refused
returns-in-Err-clause-refused g c =
    memory-not-loaded c.args.clients c.args.text.now (0, c.in-Err.refusal) (ap (λ r. (0, r)) c.in-Err.ensures.refused)
