-- What the function of a call leaves and answers, beside what the call's definition says. Used by proofs only.
use Rattle.std.specs.Prelude.{◌≡◌, Result, Ok, Err}
use Rattle.zt_rows.specs.declared.calls.Reply.{Reply}
use Rattle.zt_rows.specs.declared.calls.Reply.TheVariants as reply
use Rattle.zt_rows.specs.State.{State}
use Rattle.zt_store.specs.StepView.{Stepping, Advanced, AsBegun}
use Rattle.zt_calls.specs.declared.failure.Failure.{Failure}
use Rattle.zt_calls.specs.declared.failure.Failure.TheVariants as failure

-- the step went on to the state of d, with the reply of d; or memory was refused, and the step is as begun
abbrev pub Does : State × Reply → Stepping → Stepping → Result Reply Failure → Type 0
Does d old new (Ok answer) = Advanced old new d.0 × (answer ≡ d.1)
Does d old new (Err (failure.Status wrong)) = Advanced old new d.0 × (reply.Status wrong ≡ d.1)
Does d old new (Err failure.OutOfMemory) = AsBegun old new
