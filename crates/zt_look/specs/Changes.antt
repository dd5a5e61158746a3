-- What a call changed: the rows in which the state of its moment and that of the moment before it differ. And the rows in which
-- the states of any two moments differ. This project's own.
use Rattle.std.specs.Prelude.{ℕ, List, map, Result, Ok}
use Rattle.zt_rows.specs.declared.refusals.Refusal.{Refusal}
use Rattle.zt_rows.specs.Change.{changed}
use Rattle.zt_rows.specs.State.{State, row}
use Rattle.zt_history.specs.HistoryRefusals.{moment_on, ◌>>=◌}
use Rattle.zt_history.specs.Tree.{Made, Tree, parent_at, state_at}
use Rattle.zt_look.specs.declared.changes.Change.{Change}

-- each key at which S and T differ, in order, with the row of S and that of T
abbrev pub changes : State → State → List Change
changes S T = map (λ k. record { key = k; before = row S k; after = row T k }) (changed S T)

-- what the call of a moment changed
abbrev pub changes_at : List Made → ℕ → List Change
changes_at made m = changes (state_at made (parent_at made m)) (state_at made m)

-- what the call of a moment changed; refused where the tree has no such moment
abbrev pub changed_on : Tree → ℕ → Result (List Change) Refusal
changed_on t m = do
  _ ← moment_on t m
  Ok (changes_at t.made m)

-- ---- between two moments

-- both are moments of the tree
abbrev pub both_on : Tree → ℕ → ℕ → Result ℕ Refusal
both_on t a b = do
  _ ← moment_on t a
  moment_on t b

-- the rows in which the states of two moments differ, of whatever branches: as they are at the first, and at the second
abbrev pub changed_between : Tree → ℕ → ℕ → Result (List Change) Refusal
changed_between t a b = do
  _ ← both_on t a b
  Ok (changes (state_at t.made a) (state_at t.made b))
