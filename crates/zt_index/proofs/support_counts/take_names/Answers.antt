use Rattle.std.proofs.Common.{sym, ap, arith}
use Rattle.zt_rows.specs.declared.rows.Held.{Held}
use Rattle.zt_index.specs.declared.support_counts.KoidCounts.{KoidCounts}
use Rattle.zt_index.proofs.Naming.{named_next}
use Rattle.zt_index.proofs.support_counts.take_names.Goals as goal

pub take-requires-clause-named : goal.take-requires-clause-named
take-requires-clause-named c =
    let held = c.held-item.result in
    let next = named_next c.args.handles.now c.loop-held.held-index held.koid held c.loop-held-test.true (ap (λ (h : Held). h.koid) (sym c.held-item.is)) in
    let so_far = ap (λ (n : KoidCounts). n.named) (c.loop-held.invariant held.koid) in
    omega (arith, next, so_far, c.requires.there held.koid)
