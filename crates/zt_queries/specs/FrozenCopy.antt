-- A copy of a history at its position, and what it is asked: checks first, as of a history. This project's own.
use Rattle.std.specs.Prelude.{ℕ, List, Result, Ok}
use Rattle.zt_rows.specs.declared.calls.Call.{Call}
use Rattle.zt_rows.specs.declared.refusals.Refusal.{Refusal}
use Rattle.zt_rows.specs.declared.refusals.Refusal.TheVariants as refusal
use Rattle.zt_rows.specs.declared.supports.Support.{Support}
use Rattle.zt_rows.specs.State.{State}
use Rattle.zt_rows.specs.Support.{supports}
use Rattle.zt_rows.specs.Tests.{exists}
use Rattle.zt_history.specs.HistoryRefusals.{check, ◌>>=◌}
use Rattle.zt_history.specs.Timeline.{Timeline}
use Rattle.zt_history.specs.Tree.{state_at, calls_to}

-- a moment, its state, and the calls on the path to it, each with its process
pub record Snapshot : Type 0 where
  pub moment : ℕ
  pub state : State
  pub calls : List (ℕ × Call)

-- the copy of a history at its position
abbrev pub at_position : Timeline → Snapshot
at_position h = record {
  moment = h.position;
  state = state_at h.tree.made h.position;
  calls = calls_to h.tree.made h.position;
}

-- what keeps the object; refused where there is no such object
abbrev pub holders_on : State → ℕ → Result (List Support) Refusal
holders_on S x = do
  _ ← check (exists S x) refusal.NoObject
  Ok (supports S x)
