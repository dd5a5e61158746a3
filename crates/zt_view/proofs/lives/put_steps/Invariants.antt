-- The lines of the steps so far stand behind the text, and the last of them is the one before.
use Rattle.std.proofs.Common.{◌≡◌, ◌++◌, None, take}
use Rattle.zt_view.specs.HandleTexts.{last_step, steps_text}
use Rattle.zt_view.proofs.lives.put_steps.Given as goal

abbrev pub invariant-loop-step : goal.invariant-loop-step
invariant-loop-step l = record {
  text : l.text.items ≡ l.fn.text.items ++ steps_text l.history.tree.made None (take l.step-index l.steps);
  before : l.before ≡ last_step None (take l.step-index l.steps);
}
