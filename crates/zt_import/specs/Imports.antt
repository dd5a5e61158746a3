-- How an import is seen: the tree of the calls that were made, the calls that were asked, and the differences that are told
-- and counted. This project's own.
use Rattle.std.specs.Prelude.{◌≡◌, ℕ, Bool, nat_lt, List, [], length, take, count_by, Ok}
use Rattle.zt_history.specs.Tree.{Tree}
use Rattle.zt_book.specs.Log.{loaded}
use Rattle.zt_logs.specs.declared.logged.LoggedCall.{LoggedCall}
use Rattle.zt_import.specs.declared.trail.Difference.{Difference}
use Rattle.zt_import.specs.declared.trail.TrailStep.{TrailStep}
use Rattle.zt_import.specs.Orders.{IsOrder}
use Rattle.zt_import.specs.Trails.{calls_of, numbers_in, moments_in, moments_to, differences_of, AreMadeBy}

pub record Import : Type 0 where
  pub tree : Tree
  pub trail : List TrailStep
  pub told : List Difference
  pub count : ℕ
  pub by_schedule : ℕ

-- a reply differs, and not by the schedule
abbrev pub differs : Import → Bool
differs it = nat_lt it.by_schedule it.count

-- the calls that were made load as the tree, and each of its moments is that of one step, in their order
pub record Loads (it : Import) : Type 0 where
  pub loads : loaded (calls_of it.tree.made) ≡ Ok it.tree
  pub moments : moments_in it.trail ≡ moments_to (length it.tree.made)

-- the calls of a log are steps, in an order in which they may be run; all of them that differ are counted, and the first hundred told
pub record IsImportOf (calls : List LoggedCall) (it : Import) : Type 0 where
  pub numbers : IsOrder calls (numbers_in it.trail)
  pub told : it.told ≡ take 100 (differences_of calls it.tree.made it.trail)
  pub count : it.count ≡ length (differences_of calls it.tree.made it.trail)

-- the count of differences by the schedule is that of the differences that a schedule can have made, by a port's queue near by
abbrev pub CountsBySchedule : List LoggedCall → Import → Type 0
CountsBySchedule calls it = it.by_schedule ≡ count_by (λ difference. difference.by_schedule) (differences_of calls it.tree.made it.trail)

-- what is called at the moment of a step is the log's call of its number, by the process that stands for the log's, but for handles
abbrev pub AreTheLogsCalls : List LoggedCall → Import → Type 0
AreTheLogsCalls calls it = AreMadeBy calls it.tree.made [] it.trail
