use Rattle.std.proofs.Common.{sym, ap, ◌∙◌, subst}
use Rattle.std.proofs.lemmas.Result.{on_ok_weaker}
use Rattle.std.specs.List.{fold}
use Rattle.zt_rows.specs.Consistent.{IsConsistent}
use Rattle.zt_rows.specs.Reads.{waits}
use Rattle.zt_rows.specs.Settle.{fire, refresh}
use Rattle.zt_cascade.specs.PacketRoom.{FiresWithin}
use Rattle.zt_cascade.proofs.FiringLaws.{settled}
use Rattle.zt_cascade.proofs.settled_signals.settle_all.Goals as goal

pub fire_all-requires-clause-began : goal.fire_all-requires-clause-began
fire_all-requires-clause-began c = subst IsConsistent (sym c.in_ok-renew_near.ensures.ahead.beginning) c.requires.began

pub fire_all-requires-clause-room : goal.fire_all-requires-clause-room
fire_all-requires-clause-room c =
    let B = c.args.step.now.beginning in
    let S = c.args.step.now.current in
    subst (λ B. FiresWithin B c.renew_near.new.step.current (fold (fire B) c.renew_near.new.step.current (waits c.renew_near.new.step.current))) (sym c.in_ok-renew_near.ensures.ahead.beginning)
    (subst (λ T. FiresWithin B T (fold (fire B) T (waits T))) (sym c.in_ok-renew_near.ensures.ok) (subst (FiresWithin B (refresh S)) (sym (settled B S)) c.requires.room))

pub returns-clause-ok : goal.returns-clause-ok
returns-clause-ok c =
    let B = c.args.step.now.beginning in
    on_ok_weaker c.fire_all.result
    (λ fired. fired ∙ ap (λ A. fold (fire A) c.renew_near.new.step.current (waits c.renew_near.new.step.current)) c.in_ok-renew_near.ensures.ahead.beginning
    ∙ ap (λ S. fold (fire B) S (waits S)) c.in_ok-renew_near.ensures.ok ∙ settled B c.args.step.now.current)
    c.fire_all.ensures.ok
