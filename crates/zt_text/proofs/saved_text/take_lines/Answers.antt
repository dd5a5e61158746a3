use Rattle.std.proofs.Common.{◌≡◌, length, arith}
use Rattle.std.proofs.lemmas.Bool.Decides.{nat_tests}
use Rattle.zt_text.specs.Lines.{lines_of}
use Rattle.zt_text.specs.SavedTexts.{with_lines}
use Rattle.zt_text.proofs.SavedLemmas.{lines_more, lines_faulty, no_lines}
use Rattle.zt_text.proofs.saved_text.take_lines.Goals as goal

pub returns-in-Err-clause-refused : goal.returns-in-Err-clause-refused
returns-in-Err-clause-refused c =
    rw c.fault_at.ensures
    (lines_faulty (with_lines c.args.tree.now 2 (lines_of c.args.text.now)) c.loop-left.tree c.loop-left.number (lines_of c.loop-left.left.now)
    (lines_of c.next_line.result.1.now) c.next_line.result.0.now c.in-Err.fault c.loop-left.invariant.so_far c.next_line.ensures.lines c.in-Err.ensures.refused)

pub loop-left-preserved : goal.loop-left-preserved
loop-left-preserved c = record {
  so_far = lines_more (with_lines c.args.tree.now 2 (lines_of c.args.text.now)) c.loop-left.tree c.take_line.new.tree c.loop-left.number
      (lines_of c.loop-left.left.now) (lines_of c.next_line.result.1.now) c.next_line.result.0.now
      c.loop-left.invariant.so_far c.next_line.ensures.lines c.in-Ok.ensures.taken;
  room = omega (arith, c.loop-left.invariant.room, c.next_line.ensures.shorter);
}

pub returns-clause-taken : goal.returns-clause-taken
returns-clause-taken c =
    let none : length c.loop-left.left.now ≡ 0 = grind (arith, nat_tests, c.is_empty.ensures, c.loop-left-test.false) in
    no_lines (with_lines c.args.tree.now 2 (lines_of c.args.text.now)) c.loop-left.tree c.loop-left.number c.loop-left.left.now c.loop-left.invariant.so_far none
