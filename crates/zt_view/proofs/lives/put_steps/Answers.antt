use Rattle.zt_view.proofs.LifeLaws.{last_next, text_next}
use Rattle.zt_view.proofs.lives.put_steps.Goals as goal

pub loop-step-preserved : goal.loop-step-preserved
loop-step-preserved c = record {
  text = text_next _ c.args.steps.now c.loop-step.step-index _ c.step-item.result _ _ _ c.loop-step-test.true c.step-item.is c.loop-step.invariant.before c.loop-step.invariant.text c.in_ok-put_step.ensures;
  before = last_next c.args.steps.now c.loop-step.step-index c.step-item.result c.loop-step-test.true c.step-item.is;
}
