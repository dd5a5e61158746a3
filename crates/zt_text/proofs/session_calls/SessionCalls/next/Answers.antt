-- A line more is looked at.
use Rattle.std.proofs.Common.{◌≡◌, sym, ◌∙◌, length, arith}
use Rattle.std.proofs.lemmas.Bool.Decides.{nat_tests}
use Rattle.zt_text.specs.Lines.{lines_of}
use Rattle.zt_text.specs.SessionCalls.{next_call}
use Rattle.zt_text.proofs.SessionCallLemmas.{line_skipped, line_taken, line_not_taken, lines_ended}
use Rattle.zt_text.proofs.session_calls.SessionCalls.next.Goals as goal

pub returns-in-Err-clause-refused : goal.returns-in-Err-clause-refused
returns-in-Err-clause-refused c =
    rw c.fault_at.ensures
    (line_not_taken (next_call c.args.self.now) c.lines.self-inside.number (lines_of c.lines.self-inside.left.now) (lines_of c.next_line.result.1.now)
    c.next_line.result.0.now c.in-Err.fault c.lines.invariant.so_far c.next_line.ensures.lines c.in-Err.ensures.refused)

pub returns-then-is_some-clause-read : goal.returns-then-is_some-clause-read
returns-then-is_some-clause-read c =
    line_taken (next_call c.args.self.now) c.lines.self-inside.number (lines_of c.lines.self-inside.left.now) (lines_of c.next_line.result.1.now)
    c.next_line.result.0.now c.in-Ok.made c.lines.invariant.so_far c.next_line.ensures.lines c.in-Ok.ensures.read (sym c.is_some.ensures ∙ c.if-is_some.true)

pub lines-preserved : goal.lines-preserved
lines-preserved c = record {
  so_far = line_skipped (next_call c.args.self.now) c.lines.self-inside.number (lines_of c.lines.self-inside.left.now) (lines_of c.next_line.result.1.now)
      c.next_line.result.0.now c.in-Ok.made c.lines.invariant.so_far c.next_line.ensures.lines c.in-Ok.ensures.read (sym c.is_some.ensures ∙ c.if-is_some.false);
  room = omega (arith, c.lines.invariant.room, c.next_line.ensures.shorter);
}

pub returns-clause-read : goal.returns-clause-read
returns-clause-read c =
    let none : length c.lines.self-inside.left.now ≡ 0 = grind (arith, nat_tests, c.is_empty.ensures, c.lines-test.false) in
    lines_ended (next_call c.args.self.now) c.lines.self-inside.number c.lines.self-inside.left.now c.lines.invariant.so_far none
