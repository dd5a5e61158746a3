-- One call more is read.
use Rattle.std.proofs.Common.{sym, ◌∙◌, ap}
use Rattle.std.proofs.lemmas.Result.{err_from_is_err_and}
use Rattle.zt_text.specs.Session.{session_has_call, session_of}
use Rattle.zt_text.specs.SessionCalls.{calls_left}
use Rattle.zt_text.proofs.SessionCallLemmas.{behind, behind_none, row_session, row_has, row_unread, calls_more, rest_shorter, has_next, call_wanted, text_not_read, calls_ended}
use Rattle.zt_text.proofs.session_text.read_session.Goals as goal

pub returns-in_err-left-clause-refused : goal.returns-in_err-left-clause-refused
returns-in_err-left-clause-refused c =
    let p = err_from_is_err_and c.from_residual.result c.from_residual.ensures.1 in
    rw (p.1, p.2) (row_unread c.args.text.now c.in_err-left.field-0.0 (sym c.in_err-left.ensures))

pub calls-init : goal.calls-init
calls-init c =
    let at = sym c.in_ok-left.ensures in
    record {
      so_far = row_session c.args.text.now c.in_ok-left.left at ∙ behind_none (calls_left c.in_ok-left.left) ∙ ap (λ items. behind items (calls_left c.in_ok-left.left)) (sym c.new-calls.ensures.items);
      has = row_has c.args.text.now c.in_ok-left.left at;
    }

pub returns-in_err-made-clause-refused : goal.returns-in_err-made-clause-refused
returns-in_err-made-clause-refused c =
    let p = err_from_is_err_and c.from_residual-in_err-made.result c.from_residual-in_err-made.ensures.1 in
    rw (p.1, p.2) (
    text_not_read (session_of c.args.text.now) (session_has_call c.args.text.now) c.calls.left c.calls.calls.items c.in_err-made.field-0.0
    c.calls.invariant.so_far c.calls.invariant.has c.in_err-made.ensures.refused
    )

pub returns-in-Err-clause-refused : goal.returns-in-Err-clause-refused
returns-in-Err-clause-refused c =
    call_wanted (session_of c.args.text.now) (session_has_call c.args.text.now) c.calls.left c.next.new.self c.in-Some.made c.calls.invariant.has
    (rw c.in-Some.is at c.in_ok-made.ensures.read)

pub calls-smaller : goal.calls-smaller
calls-smaller c = rest_shorter c.calls.left c.next.new.self c.in-Some.made (rw c.in-Some.is at c.in_ok-made.ensures.read)

pub calls-preserved : goal.calls-preserved
calls-preserved c =
    let read = rw c.in-Some.is at c.in_ok-made.ensures.read in
    record {
      so_far = calls_more (session_of c.args.text.now) c.calls.left c.next.new.self c.in-Some.made c.calls.calls.items c.calls.invariant.so_far read
          ∙ ap (λ items. behind items (calls_left c.next.new.self)) (sym c.in-Ok.ensures.items);
      has = has_next (session_has_call c.args.text.now) c.calls.left c.next.new.self c.in-Some.made c.calls.invariant.has read;
    }

pub returns-clause-read : goal.returns-clause-read
returns-clause-read c =
    calls_ended (session_of c.args.text.now) c.calls.left c.next.new.self c.calls.calls.items c.calls.invariant.so_far (rw c.in_default.is at c.in_ok-made.ensures.read)
