-- The first line is loaded from where it is whole, and then the others.
use Rattle.zt_console.proofs.ReadLaws.{through_kept}
use Rattle.zt_console.proofs.read_text.take_lines.Goals as goal

pub returns : goal.returns
returns c =
    λ all. through_kept c.args.part.now.items c.args.lines.now c.in-Some.first.now c.in-Some.others.now c.go_on.new.part.items c.as_slice.result.now
    c.args.row.now c.put_lines.new.row c.put_lines-2.new.row c.in-Some.ensures (c.go_on.ensures c.if-not-go_on.false) c.as_slice.ensures.value
    (c.put_lines.ensures c.if-not-put_lines.false) (c.put_lines-2.ensures all)
