use Rattle.zt_import.proofs.TrailLaws.{aside_none, aside_both}
use Rattle.zt_import.proofs.adoption.Adoption.made.Goals as goal

pub loop-object-init : goal.loop-object-init
loop-object-init c = aside_none c.args.taken.now

pub loop-object-preserved : goal.loop-object-preserved
loop-object-preserved c = aside_both c.args.taken.now c.loop-object.taken c.handle_to.new.taken c.loop-object.invariant c.in_ok-handle.ensures
