-- Each wait is followed by the least above it of both kinds.
use Rattle.std.proofs.Common.{sym, ◌∙◌, subst}
use Rattle.zt_rows.specs.declared.keys.RowKey.TheVariants as key
use Rattle.zt_look.specs.ObjectLook.{is_wait_about}
use Rattle.zt_look.specs.ProofsOnly.RowWalk.{lesser, wait_key, AreNextWaits}
use Rattle.zt_look.proofs.RowWalkLaws.{walk-fewer}
use Rattle.zt_look.proofs.ObjectRowLaws.{waits-first, waits-there, waits-more}
use Rattle.zt_look.proofs.object_rows.waits_of.Goals as goal

pub waits-init : goal.waits-init
waits-init c = record {
  listed =
      waits-first c.args.store.now.state c.args.koid c.first_waits-next.result.low c.first_waits-next.result.by_port c.first_waits-next.result.by_handle c.new-list.result.items
      c.first_waits-next.ensures.next c.first_waits-next.ensures.first c.new-list.ensures.items;
  next = c.first_waits-next.ensures.next;
}

pub waits-smaller : goal.waits-smaller
waits-smaller c =
    let there =
    waits-there c.args.store.now.state c.args.koid c.waits.next.low c.waits.next.by_port c.waits.next.by_handle c.in-Some.number c.waits.invariant.next (sym c.lesser.ensures ∙ c.in-Some.is)
    in
    walk-fewer c.args.store.now.state (is_wait_about c.args.store.now.state c.args.koid) (key.Wait c.in-Some.number) there.0
    (wait_key (lesser c.waits_behind-next.result.by_port c.waits_behind-next.result.by_handle)) c.waits.list.items c.push_row.new.list.items there.1 c.in_ok-push_row.ensures
    (waits-more c.args.store.now.state c.args.koid c.waits.next.low c.waits.next.by_port c.waits.next.by_handle c.waits_behind-next.result.by_port c.waits_behind-next.result.by_handle
    c.in-Some.number c.waits.list.items c.push_row.new.list.items c.waits.invariant.next (sym c.lesser.ensures ∙ c.in-Some.is) c.waits.invariant.listed c.in_ok-push_row.ensures
    (subst (λ low. AreNextWaits c.args.store.now.state c.args.koid low c.waits_behind-next.result.by_port c.waits_behind-next.result.by_handle) c.waits_behind-next.ensures.low
    c.waits_behind-next.ensures.next))

pub waits-preserved : goal.waits-preserved
waits-preserved c = record {
  listed =
      waits-more c.args.store.now.state c.args.koid c.waits.next.low c.waits.next.by_port c.waits.next.by_handle c.waits_behind-next.result.by_port c.waits_behind-next.result.by_handle
      c.in-Some.number c.waits.list.items c.push_row.new.list.items c.waits.invariant.next (sym c.lesser.ensures ∙ c.in-Some.is) c.waits.invariant.listed c.in_ok-push_row.ensures
      (subst (λ low. AreNextWaits c.args.store.now.state c.args.koid low c.waits_behind-next.result.by_port c.waits_behind-next.result.by_handle) c.waits_behind-next.ensures.low
      c.waits_behind-next.ensures.next);
  next = c.waits_behind-next.ensures.next;
}
