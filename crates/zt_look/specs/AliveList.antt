-- What was made on a path, is there at its end and has not ended, as a list. This project's own.
use Rattle.std.specs.Prelude.{◌≡◌, ℕ, ◌<◌, true, List, map, Some, Result, Ok}
use Rattle.std.specs.List.{AllByRecursion}
use Rattle.std.specs.List.Sorted.{IsStrictlyIncreasing}
use Rattle.zt_rows.specs.declared.calls.Happening.TheVariants as happening
use Rattle.zt_rows.specs.declared.refusals.Refusal.{Refusal}
use Rattle.zt_rows.specs.declared.refusals.Refusal.TheVariants as refusal
use Rattle.zt_rows.specs.Support.{support_count}
use Rattle.zt_rows.specs.Tests.{among, kind_at}
use Rattle.zt_history.specs.HistoryRefusals.{check, moment_on, ◌>>=◌}
use Rattle.zt_history.specs.Tree.{Made, Tree, state_at}
use Rattle.zt_queries.specs.Happenings.{lives}
use Rattle.zt_queries.specs.HappeningTimes.{happens, last_on}
use Rattle.zt_queries.specs.LaterMoments.{leads_to}
use Rattle.zt_look.specs.declared.alive_list.AliveObject.{AliveObject}

-- ---- what is asked

-- a moment of the tree, to which the other one leads
abbrev pub since_on : Tree → ℕ → ℕ → Result ℕ Refusal
since_on t at since = do
  _ ← moment_on t at
  _ ← check (leads_to t.made since at) refusal.NoMoment
  Ok at

-- ---- what is told

-- at this moment it is there and has not ended, with this kind and so many supports; on the path there it was made by the call of
-- that moment, which is behind the other one
pub record IsAlive (made : List Made) (at since : ℕ) (o : AliveObject) : Type 0 where
  pub living : lives (state_at made at) o.koid ≡ true
  pub kind : kind_at (state_at made at) o.koid ≡ Some o.kind
  pub holders : o.holders ≡ support_count (state_at made at) o.koid
  pub made_at : last_on (happens happening.Made o.koid) made at ≡ Some o.made
  pub behind : since < o.made

abbrev pub koids : List AliveObject → List ℕ
koids list = map (λ o. o.koid) list

-- the list has each such object once, by rising koid, and no others
pub record AreAlive (made : List Made) (at since : ℕ) (list : List AliveObject) : Type 0 where
  pub each : AllByRecursion (IsAlive made at since) list
  pub rising : IsStrictlyIncreasing (koids list)
  pub all : (x m : ℕ) → lives (state_at made at) x ≡ true → last_on (happens happening.Made x) made at ≡ Some m → since < m
      → among (koids list) x ≡ true
