-- A later moment of the same step. Used by proofs only.
use Rattle.std.specs.Prelude.{◌≡◌}
use Rattle.zt_store.specs.Places.{Keeps}
use Rattle.zt_store.specs.StepView.{Stepping}

-- a later moment of the same step: it began so, and what fitted before fits still
pub record IsAhead (old new : Stepping) : Type 0 where
  pub beginning : new.beginning ≡ old.beginning
  pub kept : Keeps old.places new.places
