-- The koids below the next one are all that were given out.
use Rattle.std.proofs.Common.{◌≡◌, ap, ◌∙◌, arith}
use Rattle.zt_rows.specs.Reads.{counters}
use Rattle.zt_rows.specs.State.{State}
use Rattle.zt_look.proofs.AliveLaws.{all-alive}
use Rattle.zt_look.proofs.alive_list.alive_here.Goals as goal

pub returns : goal.returns
returns c =
    let next : c.loop-number.number ≡ c.next_koid-next_koid.result = omega (arith, c.loop-number-test.false, c.loop-number.auto.number-end) in
    all-alive c.args.history.now.tree c.limits.ensures.tree c.args.history.now.position c.args.since c.loop-number.number c.limits.ensures.within
    (next ∙ c.next_koid-next_koid.ensures ∙ ap (λ (S : State). (counters S).next_koid) c.store.ensures.state) c.loop-number.list.items c.loop-number.invariant
