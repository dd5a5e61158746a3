use Rattle.std.proofs.Common.{subst}
use Rattle.zt_import.specs.ProofsOnly.TakenCalls.{IsAside}
use Rattle.zt_import.proofs.TrailLaws.{aside_none, aside_both}
use Rattle.zt_import.proofs.adoption.Adoption.duplicate.Goals as goal

pub loop-again-init : goal.loop-again-init
loop-again-init c = aside_none c.args.taken.now

pub loop-again-preserved : goal.loop-again-preserved
loop-again-preserved c =
    aside_both c.args.taken.now c.loop-again.taken c.ask_one.new.taken c.loop-again.invariant
    (subst (λ old. IsAside old c.ask_one.new.taken) c.duplicate_origin.ensures.same c.in_ok-one.ensures)
