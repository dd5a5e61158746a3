-- The path that is looked at, by its end.
use Rattle.std.specs.Prelude.{ℕ, List, Option, Some, None, Result, Ok, Err, codes}
use Rattle.std.specs.Borrow.{Bor}
use Rattle.zt_rows.specs.declared.refusals.Refusal.{Refusal}
use Rattle.zt_rows.specs.declared.refusals.Refusal.TheVariants as refusal
use Rattle.zt_history.specs.HistoryRefusals.{moment_on}
use Rattle.zt_history.specs.Tree.{Tree, branch_named, head_at}

-- the head of a branch that is there
abbrev pub head_of : Tree → Option ℕ → Result ℕ Refusal
head_of t (Some branch) = Ok (head_at t.branches branch)
head_of t None = Err refusal.NoBranch

abbrev pub head_named : Tree → List ℕ → Result ℕ Refusal
head_named t name = head_of t (branch_named t.branches name)

-- the moment that is named, or the head of the branch that is named, or of `main`
abbrev pub path_end : Tree → Option ℕ → Option (Bor (List ℕ)) → Result ℕ Refusal
path_end t (Some moment) branch = moment_on t moment
path_end t None (Some name) = head_named t name.now
path_end t None None = head_named t (codes "main")
