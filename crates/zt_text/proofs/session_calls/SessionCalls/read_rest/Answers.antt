-- A further call is dropped.
use Rattle.std.proofs.lemmas.Result.{err_from_is_err_and}
use Rattle.zt_text.specs.Session.{has_call}
use Rattle.zt_text.specs.SessionCalls.{calls_left}
use Rattle.zt_text.proofs.SessionCallLemmas.{rest_more, rest_shorter, has_next, no_line_left, rest_read, rest_not_read}
use Rattle.zt_text.proofs.session_calls.SessionCalls.read_rest.Goals as goal

pub returns-in_err-_made-clause-refused : goal.returns-in_err-_made-clause-refused
returns-in_err-_made-clause-refused c =
    let p = err_from_is_err_and c.from_residual.result c.from_residual.ensures.1 in
    rw (p.1, p.2) (
    rest_not_read (calls_left c.args.self.now) (has_call c.args.self.now.lines) c.calls.self c.in_err-_made.field-0.0 c.calls.invariant.so_far c.calls.invariant.has
    c.in_err-_made.ensures.refused
    )

pub calls-smaller-in-Some : goal.calls-smaller-in-Some
calls-smaller-in-Some c = rest_shorter c.calls.self c.next.new.self c.in-Some._made (rw c.in-Some.is at c.in_ok-_made.ensures.read)

pub calls-preserved-in-Some : goal.calls-preserved-in-Some
calls-preserved-in-Some c =
    let read = rw c.in-Some.is at c.in_ok-_made.ensures.read in
    record {
      so_far = rest_more (calls_left c.args.self.now) c.calls.self c.next.new.self c.in-Some._made c.calls.invariant.so_far read;
      has = has_next (has_call c.args.self.now.lines) c.calls.self c.next.new.self c.in-Some._made c.calls.invariant.has read;
    }

pub calls-smaller : goal.calls-smaller
calls-smaller c = rest_shorter c.calls.self c.next.new.self c.in-Some._made (rw c.in-Some.is at c.in_ok-_made.ensures.read)

pub calls-preserved : goal.calls-preserved
calls-preserved c =
    let read = rw c.in-Some.is at c.in_ok-_made.ensures.read in
    record {
      so_far = rest_more (calls_left c.args.self.now) c.calls.self c.next.new.self c.in-Some._made c.calls.invariant.so_far read;
      has = has_next (has_call c.args.self.now.lines) c.calls.self c.next.new.self c.in-Some._made c.calls.invariant.has read;
    }

pub returns-clause-read : goal.returns-clause-read
returns-clause-read c = rest_read (calls_left c.args.self.now) c.calls.self c.next.new.self c.calls.invariant.so_far (rw c.in_default.is at c.in_ok-_made.ensures.read)

pub returns-clause-end : goal.returns-clause-end
returns-clause-end c = no_line_left c.calls.self c.next.new.self (rw c.in_default.is at c.in_ok-_made.ensures.read)
