-- A step that went on to a state goes on from there.
use Rattle.std.proofs.Common.{◌≡◌, ap, ◌∙◌}
use Rattle.zt_rows.specs.State.{State}
use Rattle.zt_store.specs.StepView.{Stepping, Advanced}

pub further : (s t u : Stepping) (T : State) (more : State → State) → Advanced s t T → Advanced t u (more t.current) → Advanced s u (more T)
further s t u T more went again = (again.0 ∙ went.0, again.1 ∙ ap more went.1)

-- the state that was reached, said otherwise
pub reached : (s t : Stepping) (T U : State) → Advanced s t T → T ≡ U → Advanced s t U
reached s t T U went same = (went.0, went.1 ∙ same)
