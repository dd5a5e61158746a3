-- Where a step and a list of handles tell of every object that may go. This project's own form.
use Rattle.std.specs.Prelude.{◌≡◌, ℕ, true, false, List}
use Rattle.zt_rows.specs.declared.rows.Held.{Held}
use Rattle.zt_rows.specs.Support.{is_supported}
use Rattle.zt_rows.specs.Tests.{exists}
use Rattle.zt_rows.specs.Collect.{goes}
use Rattle.zt_store.specs.StepView.{Stepping}
use Rattle.zt_cascade.specs.OneByOne.{is_named}

-- the object is named in the list, or it was not there when the step began, or it had a support then
pub data IsTold (s : Stepping) (released : List Held) (x : ℕ) : Type 0 where
  by_list : is_named released x ≡ true → IsTold s released x
  by_birth : exists s.beginning x ≡ false → IsTold s released x
  by_loss : is_supported s.beginning x ≡ true → IsTold s released x

-- each object that goes is told of
pub record IsCovered (s : Stepping) (released : List Held) : Type 0 where
  pub told : (x : ℕ) → goes s.current x ≡ true → IsTold s released x
