-- Lines that end are loaded, and the part of another is kept.
use Rattle.std.proofs.Common.{◌++◌}
use Rattle.zt_console.proofs.ReadLaws.{taken_going, taken_through}
use Rattle.zt_console.proofs.read_text.take_bytes.Goals as goal

pub returns-in_default : goal.returns-in_default
returns-in_default c = λ all. taken_going (c.args.part.now.items ++ c.args.bytes.now) c.go_on.new.part.items c.args.row.now (c.go_on.ensures all)

pub returns : goal.returns
returns c =
    λ all. taken_through c.args.part.now.items c.args.bytes.now c.in-Some.lines.now c.in-Some.rest.now c.clear.new.self.items c.go_on-2.new.part.items
    c.args.row.now c.take_lines.new.row c.in-Some.ensures (c.take_lines.ensures c.if-not-take_lines.false) c.clear.ensures.items (c.go_on-2.ensures all)
