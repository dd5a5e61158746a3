use Rattle.std.proofs.Common.{◌≤◌, length, ap, subst, ◌∙◌, arith}
use Rattle.std.specs.List.{fold}
use Rattle.zt_signals.specs.ObjectSignals.{refreshed_object}
use Rattle.zt_store.specs.StepView.{DiffersAtTouched}
use Rattle.zt_cascade.specs.ProofsOnly.NearObjects.{HasAllNear}
use Rattle.zt_cascade.proofs.ListLaws.{fold-all}
use Rattle.zt_cascade.proofs.NearLaws.{refresh-near}
use Rattle.zt_cascade.proofs.settled_signals.renew_near.Goals as goal

pub returns-clause-ok : goal.returns-clause-ok
returns-clause-ok c =
    let s = c.args.step.now in
    let past : length c.deref-koid-items.result.now ≤ c.loop-koid.koid-index = omega arith in
    ap (λ t. t.current) c.keep_koids.ensures
    ∙ c.loop-koid.invariant.current
    ∙ fold-all refreshed_object s.current c.deref-koid-items.result.now c.loop-koid.koid-index past
    ∙ ap (fold refreshed_object s.current) c.deref-koid-items.ensures.value
    ∙ refresh-near s c.list_near.new.list.items c.requires (subst DiffersAtTouched c.take_koids-near.ensures.same c.in_ok-list_near.ensures.differs)
    (subst (λ t. HasAllNear t c.list_near.new.list.items) c.take_koids-near.ensures.same c.in_ok-list_near.ensures.near)
