-- The events tell what happened, and the store what is there at the end.
use Rattle.std.proofs.Common.{subst}
use Rattle.zt_look.specs.ProofsOnly.FatesSoFar.{AreFatesUpTo}
use Rattle.zt_look.proofs.FateLaws.{fates-told}
use Rattle.zt_look.proofs.fates.fates.Goals as goal

pub returns : goal.returns
returns c =
    fates-told c.args.history.now.tree c.limits.ensures.tree c.args.history.now.position c.limits.ensures.within c.args.events.now c.requires c.store-store.result.now.state
    c.store-store.ensures.state c.in_ok-all_times.all_times.items c.in_ok-all_times.ensures c.in_ok-list.list.items
    (subst (λ ts. AreFatesUpTo c.store-store.result.now.state ts c.in_ok-list.list.items) c.as_slice.ensures.value c.in_ok-list.ensures)
