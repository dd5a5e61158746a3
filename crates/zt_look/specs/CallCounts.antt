-- How often the calls of a path were answered with a status, process by process. This project's own.
use Rattle.std.specs.Prelude.{◌≡◌, ◌⊎◌, ℕ, ◌<◌, Bool, true, ◌==◌, ◌&&◌, ⊤, List, [], ◌∷◌, count_by}
use Rattle.std.specs.List.{AllByRecursion, filter_map, list_any}
use Rattle.zt_bits.specs.declared.statuses.Status.{Status}
use Rattle.zt_bits.specs.Words.{status_number}
use Rattle.zt_rows.specs.Tests.{status_of}
use Rattle.zt_history.specs.Tree.{Made, made_at}
use Rattle.zt_look.specs.declared.call_counts.CallCount.{CallCount}

-- ---- one answer

-- a call of the process that was answered with the status
abbrev pub is_answered : ℕ → Status → Made → Bool
is_answered p s e = (e.process == p) && (status_number (status_of e.reply) == status_number s)

-- ---- all answers of a path

-- how its moments were made
abbrev pub made_along : List Made → List ℕ → List Made
made_along made way = filter_map (made_at made) way

-- how often a call of the process was answered with the status
abbrev pub answers : List Made → List ℕ → ℕ → Status → ℕ
answers made way p s = count_by (is_answered p s) (made_along made way)

-- ---- their list

pub record IsCallCount (made : List Made) (way : List ℕ) (c : CallCount) : Type 0 where
  pub count : c.count ≡ answers made way c.process c.status
  pub some : 0 < c.count

-- by process, then status
abbrev pub CountsBefore : CallCount → CallCount → Type 0
CountsBefore a b = (a.process < b.process) ⊎ ((a.process ≡ b.process) × (status_number a.status < status_number b.status))

-- each comes before all that stand behind it
abbrev pub AreCountsInOrder : List CallCount → Type 0
AreCountsInOrder [] = ⊤
AreCountsInOrder (c ∷ cs) = AllByRecursion (CountsBefore c) cs × AreCountsInOrder cs

abbrev pub is_count_of : ℕ → Status → CallCount → Bool
is_count_of p s c = (c.process == p) && (status_number c.status == status_number s)

-- the list has each process with each status that answered it, in order, and how often
pub record AreCallCounts (made : List Made) (way : List ℕ) (list : List CallCount) : Type 0 where
  pub each : AllByRecursion (IsCallCount made way) list
  pub ordered : AreCountsInOrder list
  pub all : (p : ℕ) (s : Status) → 0 < answers made way p s → list_any (is_count_of p s) list ≡ true
