-- Sets of koids, as tests of them.
use Rattle.std.specs.Prelude.{ℕ, Bool, ◌==◌}

-- the set that has the koid x alone
abbrev pub only : ℕ → ℕ → Bool
only x y = y == x
