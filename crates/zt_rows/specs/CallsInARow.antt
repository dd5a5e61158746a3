-- Calls in a row as a saved tree, as a session text of version 1 has them. This project's own.
use Rattle.std.specs.Prelude.{ℕ, ◌+◌, nat_lt, List, [], ◌∷◌, length, if◌then◌else◌, codes}
use Rattle.zt_rows.specs.declared.calls.Call.{Call}
use Rattle.zt_rows.specs.declared.saved.Saved.{Saved}
use Rattle.zt_rows.specs.declared.saved.SavedCall.{SavedCall}

-- moments have no larger numbers than 32 bits hold
abbrev pub as_moment : ℕ → ℕ
as_moment number = if nat_lt number 4294967295 then number else 4294967295

-- each call is made at the moment of the call before it
abbrev pub moments_from : ℕ → List (ℕ × Call) → List SavedCall
moments_from number [] = []
moments_from number (made ∷ calls) =
    record { parent = as_moment number; process = made.0; call = made.1 } ∷ moments_from (number + 1) calls

-- the branch `main` leads to the last
abbrev pub in_a_row : List (ℕ × Call) → Saved
in_a_row calls = record {
  moments = moments_from 0 calls;
  branches = record { name = codes "main"; head = as_moment (length calls) } ∷ [];
  cursors = [];
}
