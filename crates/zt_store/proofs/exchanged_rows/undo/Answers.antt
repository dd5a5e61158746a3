use Rattle.std.proofs.Common.{arith}
use Rattle.zt_store.proofs.Fitting.{all_fit-at}
use Rattle.zt_store.proofs.Undoing.{undone-step, undone-restores}
use Rattle.zt_store.proofs.exchanged_rows.undo.Goals as goal

pub swap-requires : goal.swap-requires
swap-requires c = all_fit-at _ _ _ _ (omega (arith, c.loop-left.invariant.within, c.loop-left.invariant.size)) c.loop-left.invariant.fit

pub loop-left-preserved : goal.loop-left-preserved
loop-left-preserved c =
    undone-step _ _ _ _ _ _ _ _ _ _ _ _ c.loop-left.invariant (omega arith) c.swap.ensures.exchanged c.swap.ensures.places c.swap.ensures.fits

pub returns-clause-restores : goal.returns-clause-restores
returns-clause-restores c = undone-restores _ _ _ _ _ _ _ c.loop-left.invariant c.loop-left-test.false
