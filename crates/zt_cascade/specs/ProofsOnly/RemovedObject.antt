-- One object on its way out of a state, row by row, and the list of what may go after it. This project's own form.
-- Used by proofs only.
use Rattle.std.specs.Prelude.{◌≡◌, ◌⊎◌, ◌≤◌, ℕ, ◌+◌, true, List, [], length, map, Option, None, Some, option_and_then}
use Rattle.zt_rows.specs.declared.keys.RowKey.{RowKey}
use Rattle.zt_rows.specs.declared.rows.Held.{Held}
use Rattle.zt_rows.specs.declared.rows.Row.{Row}
use Rattle.zt_rows.specs.declared.rows.Row.TheVariants as rows
use Rattle.zt_rows.specs.Contents.{MessageContent}
use Rattle.zt_rows.specs.State.{State, row, put}
use Rattle.zt_rows.specs.Reads.{message}
use Rattle.zt_rows.specs.Tests.{among}
use Rattle.zt_rows.specs.Collect.{left, goes}
use Rattle.zt_index.specs.ProofsOnly.KoidCounts.{total}
use Rattle.zt_store.specs.KoidSets.{only}
use Rattle.zt_cascade.specs.OneByOne.{is_named}

-- ---- one object

-- what is left under the key when x goes
abbrev pub left_at : ℕ → State → RowKey → Option Row
left_at x S k = option_and_then (left (only x) k) (row S k)

-- the state that has this under the key
abbrev pub left_behind : ℕ → State → RowKey → State
left_behind x S k = put S k (left_at x S k)

-- the row under the key stays as it is when x goes
abbrev pub IsLeft : ℕ → State → RowKey → Type 0
IsLeft x S k = left_at x S k ≡ row S k

-- what is to be looked at when the row goes: itself, and what the handles of a message name
abbrev pub weighs : RowKey → Row → ℕ
weighs _ (rows.Msg m) = 1 + length m.handles
weighs _ _ = 1

abbrev pub weight : State → ℕ
weight S = total weighs S

-- each row of T is as in S, or as it is left when x goes
pub record IsPartly (x : ℕ) (S T : State) : Type 0 where
  pub at : (k : RowKey) → (row T k ≡ row S k) ⊎ (row T k ≡ left_at x S k)
  pub lighter : weight T ≤ weight S

-- ---- the list of what may go

abbrev pub koids : List Held → List ℕ
koids handles = map (λ held. held.koid) handles

abbrev pub handles_in : Option MessageContent → List Held
handles_in (Some m) = m.handles
handles_in None = []

-- what each message that went from the queue of x named is in the list, and what was in it before
pub record AreHandlesListed (x : ℕ) (S : State) (list : List ℕ) (T : State) (later : List ℕ) : Type 0 where
  pub noted : (n : ℕ) (m : MessageContent) → message S x n ≡ Some m → (y : ℕ) → is_named m.handles y ≡ true → (message T x n ≡ Some m) ⊎ (among later y ≡ true)
  pub grown : (y : ℕ) → among list y ≡ true → among later y ≡ true
  pub lighter : weight T + length later ≤ weight S + length list

-- whatever goes is in the list
pub record Covers (list : List ℕ) (S : State) : Type 0 where
  pub each : (y : ℕ) → goes S y ≡ true → among list y ≡ true
