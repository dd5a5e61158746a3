-- Later moments of a step.
use Rattle.std.proofs.Common.{refl, ◌∙◌}
use Rattle.zt_store.specs.StepView.{Stepping}
use Rattle.zt_store.specs.ProofsOnly.StepView.{IsAhead}

pub ahead-itself : (s : Stepping) → IsAhead s s
ahead-itself s = record { beginning = refl; kept = λ R f. f }

pub ahead-then : (s t u : Stepping) → IsAhead s t → IsAhead t u → IsAhead s u
ahead-then s t u first second = record { beginning = second.beginning ∙ first.beginning; kept = λ R f. second.kept R (first.kept R f) }
