-- One line more is read.
use Rattle.std.proofs.Common.{◌≡◌, ◌+◌, suc, ◌∷◌, ◌∙◌, length, arith}
use Rattle.zt_logs.specs.Lines.{lines_of}
use Rattle.zt_logs.proofs.LineLaws.{few_lines}
use Rattle.zt_logs.proofs.ReadLaws.{read_line}
use Rattle.zt_logs.proofs.json_lines.take_lines.Goals as goal

pub loop-left-preserved : goal.loop-left-preserved
loop-left-preserved c =
    let first = c.next_line.ensures.lines in
    let counted : c.loop-left.log.lines + length (c.next_line.result.0.bytes.now ∷ lines_of c.next_line.result.1.now) ≡ length (lines_of c.args.text.now) =
    rw first at c.loop-left.invariant.lines in
    let exact : c.saturating_add-log.result ≡ suc c.loop-left.log.lines =
    grind (arith, c.saturating_add-log.ensures, counted, few_lines c.args.text.now, c.type_inv.text) in
    let now : c.take_line.new.log.lines ≡ suc c.loop-left.log.lines = c.take_line.ensures.lines ∙ exact in
    rw now (read_line c.args.text.now c.loop-left.left.now c.next_line.result.1.now c.next_line.result.0.bytes.now c.loop-left.log.lines
    c.loop-left.log.calls.items c.take_line.new.log.calls.items first c.loop-left.invariant (rw exact at c.in-Ok.ensures.calls))
