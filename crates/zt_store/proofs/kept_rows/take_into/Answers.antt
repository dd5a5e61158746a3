use Rattle.std.proofs.Common.{◌+◌, set, subst, sym}
use Rattle.zt_store.proofs.TakenRows.{IsFilling, taking-within, filling-start, filling-next, filling-end}
use Rattle.zt_store.proofs.kept_rows.take_into.Goals as goal

pub loop-place-init : goal.loop-place-init
loop-place-init c = filling-start _ _ _ _ c.requires.keys c.requires.rows

pub loop-place-preserved : goal.loop-place-preserved
loop-place-preserved c =
    subst (λ row. IsFilling c.args.firsts.now.rows c.args.order.now (c.loop-place.place + 1) (set c.loop-place.keys c.loop-place.place c.exchange.result) (set c.loop-place.rows c.loop-place.place row) c.exchange.new.self.rows)
    (sym c.replace.ensures.after)
    (filling-next _ _ _ _ _ _ _ _ c.requires.order c.loop-place.invariant.taking c.loop-place-test.true c.exchange.ensures.was c.exchange.ensures.put _ _ c.loop-place.invariant)

pub exchange-requires : goal.exchange-requires
exchange-requires c = taking-within _ _ _ _ c.requires.order c.loop-place.invariant.taking c.loop-place-test.true

pub returns : goal.returns
returns c = filling-end _ _ _ _ _ _ c.loop-place.invariant c.loop-place-test.false
