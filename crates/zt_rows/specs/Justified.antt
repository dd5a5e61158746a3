-- Removal one object at a time, as a worklist does it, beside the removal by rounds. This project's own form.
use Rattle.std.specs.Prelude.{◌≡◌, ℕ, Bool, true, false, ◌==◌, ◌||◌}
use Rattle.zt_rows.specs.State.{State}
use Rattle.zt_rows.specs.Collect.{goes, without}

-- the set, and one more
abbrev pub also : ℕ → (ℕ → Bool) → ℕ → Bool
also x going y = (y == x) || going y

-- the set was built one object at a time, of objects that go once those before them are gone
pub data Justified (S : State) : (ℕ → Bool) → Type 0 where
  none_yet : Justified S (λ _. false)
  one_more : {going : ℕ → Bool} (x : ℕ) → Justified S going → goes (without S going) x ≡ true → Justified S (also x going)
