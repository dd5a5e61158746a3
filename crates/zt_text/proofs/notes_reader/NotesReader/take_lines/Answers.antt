use Rattle.std.proofs.Common.{◌≡◌, length, sym, arith}
use Rattle.std.proofs.lemmas.Bool.Decides.{nat_tests}
use Rattle.zt_text.specs.Lines.{lines_of}
use Rattle.zt_text.specs.Notes.{noted_in}
use Rattle.zt_text.proofs.NoteLemmas.{noted_more, noted_all}
use Rattle.zt_text.proofs.notes_reader.NotesReader.take_lines.Goals as goal

pub lines-preserved : goal.lines-preserved
lines-preserved c =
    noted_more (noted_in c.args.self.now (lines_of c.args.lines.now)) c.lines.self c.take_line.new.self (lines_of c.lines.left.now) (lines_of c.next_line.result.1.now)
    c.next_line.result.0.now c.lines.invariant c.next_line.ensures.lines c.in_ok-take_line.ensures

pub returns : goal.returns
returns c =
    let none : length c.lines.left.now ≡ 0 = grind (arith, nat_tests, c.is_empty.ensures, c.lines-test.false) in
    sym (noted_all (noted_in c.args.self.now (lines_of c.args.lines.now)) c.lines.self c.lines.left.now c.lines.invariant none)
