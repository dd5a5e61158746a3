use Rattle.std.proofs.Common.{◌∙◌, arith}
use Rattle.zt_index.proofs.Naming.{all_within, more_within}
use Rattle.zt_index.proofs.support_counts.SupportCounts.grow_to_all.Goals as goal

pub loop-held-preserved : goal.loop-held-preserved
loop-held-preserved c = record {
  same = λ x. c.grow_to.ensures.same x ∙ c.loop-held.invariant.same x;
  kept = omega (arith, c.grow_to.ensures.kept, c.loop-held.invariant.kept);
  made = more_within _ _ c.args.handles.now c.loop-held.held-index c.held-item.result c.loop-held-test.true c.held-item.is c.grow_to.ensures.kept c.in_ok-grow_to.ensures.made c.loop-held.invariant.made;
}

pub returns-clause-made : goal.returns-clause-made
returns-clause-made c = all_within _ c.args.handles.now c.loop-held.held-index (omega arith) c.loop-held.invariant.made
