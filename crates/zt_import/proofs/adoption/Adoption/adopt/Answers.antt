-- A channel is made and a process spawned, and then batches of objects are given.
use Rattle.std.proofs.Common.{refl}
use Rattle.zt_import.proofs.TrailLaws.{adopting-aside, adopting-both}
use Rattle.zt_import.proofs.adoption.Adoption.adopt.Goals as goal

pub loop-batch-init : goal.loop-batch-init
loop-batch-init c =
    adopting-both c.args.taken.now c.ask_two.new.taken c.adopt_process.new.taken c.args.numbers.now.processes c.args.numbers.now.processes c.adopt_process.new.numbers.processes
    (adopting-aside c.args.taken.now c.ask_two.new.taken c.args.numbers.now.processes c.args.numbers.now.processes refl c.in_ok-near.ensures)
    c.in_ok-adopt_process.ensures

pub loop-batch-preserved : goal.loop-batch-preserved
loop-batch-preserved c =
    adopting-both c.args.taken.now c.loop-batch.taken c.give.new.taken c.args.numbers.now.processes c.loop-batch.numbers.processes c.give.new.numbers.processes
    c.loop-batch.invariant c.in_ok-give.ensures
