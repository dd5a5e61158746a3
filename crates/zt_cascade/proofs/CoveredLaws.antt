-- A step that began with every object supported tells of all that go: each is new, or had a support when it began.
use Rattle.std.proofs.Common.{◌≡◌, ℕ, Bool, true, false, List, refl}
use Rattle.zt_rows.specs.declared.rows.Held.{Held}
use Rattle.zt_rows.specs.Support.{is_supported}
use Rattle.zt_rows.specs.Tests.{exists}
use Rattle.zt_store.specs.StepView.{Stepping}
use Rattle.zt_cascade.specs.ToldObjects.{IsTold, by_birth, by_loss, IsCovered}

pub lost-covered : (s : Stepping) (released : List Held) → ((x : ℕ) → exists s.beginning x ≡ true → is_supported s.beginning x ≡ true) → IsCovered s released
lost-covered s released supported = record { told = λ x g. by x (exists s.beginning x) refl }
  where
    by : (x : ℕ) (b : Bool) → exists s.beginning x ≡ b → IsTold s released x
    by x true e = by_loss (supported x e)
    by x false e = by_birth e
