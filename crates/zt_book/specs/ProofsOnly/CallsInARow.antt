-- The calls of a tree that is made of calls in a row. Used by proofs only.
use Rattle.std.specs.Prelude.{◌≡◌, ℕ, List, map, Ok}
use Rattle.zt_rows.specs.declared.calls.Call.{Call}
use Rattle.zt_rows.specs.CallsInARow.{moments_from}
use Rattle.zt_history.specs.Tree.{Made, Tree, opening_tree}
use Rattle.zt_book.specs.SavedSessions.{in_turn, with_moment}

-- the calls that made these moments, each with its process
abbrev pub calls_of : List Made → List (ℕ × Call)
calls_of made = map (λ e. (e.process, e.call)) made

-- each moment was made at the one before it, and `main` stands at the opening
abbrev pub IsInARow : Tree → Type 0
IsInARow t = in_turn with_moment 0 opening_tree (moments_from 0 (calls_of t.made)) ≡ Ok t
