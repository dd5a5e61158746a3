use Rattle.zt_import.proofs.TrailLaws.{adopting-none, adopting-both}
use Rattle.zt_import.proofs.adoption.Adoption.adopt_all.Goals as goal

pub loop-process-init : goal.loop-process-init
loop-process-init c = adopting-none c.args.taken.now c.args.numbers.now.processes

pub loop-process-preserved : goal.loop-process-preserved
loop-process-preserved c =
    adopting-both c.args.taken.now c.loop-process.taken c.adopt.new.taken c.args.numbers.now.processes c.loop-process.numbers.processes c.adopt.new.numbers.processes
    c.loop-process.invariant c.in_ok-adopt.ensures
