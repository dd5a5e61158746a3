-- Objects are made, sent and read.
use Rattle.zt_import.proofs.TrailLaws.{aside_both, adopting-aside}
use Rattle.zt_import.proofs.adoption.Adoption.give.Goals as goal

pub returns : goal.returns
returns c =
    adopting-aside c.args.taken.now c.ask_aside.new.self c.args.numbers.now.processes c.name_read.new.numbers.processes c.in_ok-name_read.ensures
    (aside_both c.args.taken.now c.write.new.taken c.ask_aside.new.self
    (aside_both c.args.taken.now c.made.new.taken c.write.new.taken c.in_ok-handles.ensures c.in_ok-write.ensures) c.in_ok-moment.ensures)
