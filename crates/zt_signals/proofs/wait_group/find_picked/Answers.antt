use Rattle.std.proofs.Common.{sym, subst}
use Rattle.zt_index.specs.Criteria.{is_on}
use Rattle.zt_signals.specs.declared.wait_group.WaitGroup.{WaitGroup}
use Rattle.zt_signals.specs.ProofsOnly.WaitGroups.{IsNextPicked, picks}
use Rattle.zt_signals.specs.DroppedWaits.{made_on, made_under}
use Rattle.zt_signals.proofs.DroppingLaws.{next-narrow, same-kind, under-on}
use Rattle.zt_signals.proofs.wait_group.find_picked.Goals as goal

pub returns-in-On : goal.returns-in-On
returns-in-On c =
    subst (λ (p : WaitGroup). IsNextPicked (picks p) c.args.step.now.current c.args.low c.wait_on.result) (sym c.in-On.is)
    (next-narrow (made_on c.in-On.process c.in-On.handle) (is_on c.in-On.process c.in-On.handle) (same-kind (made_on c.in-On.process c.in-On.handle)) c.args.step.now.current c.args.low c.wait_on.result (rw c.store-store.ensures at c.wait_on.ensures))

pub returns-in-Under : goal.returns-in-Under
returns-in-Under c =
    let x = c.in-Under.field-0 in
    let p = c.in-Under.process in
    let h = c.in-Under.handle in
    let k = c.in-Under.field-3 in
    subst (λ (p : WaitGroup). IsNextPicked (picks p) c.args.step.now.current c.args.low c.wait_on-in-Under.result) (sym c.in-Under.is)
    (next-narrow (made_under x p h k) (is_on p h) (under-on x p h k) c.args.step.now.current c.args.low c.wait_on-in-Under.result (rw c.store-store.ensures at c.wait_on-in-Under.ensures))
