-- Where branches leave one another. This project's own.
use Rattle.std.specs.Prelude.{ℕ, List, ◌∷◌, length, map, take, Option, None, position}
use Rattle.std.specs.List.{filter_map, last_or, range_with_len}
use Rattle.std.specs.Option.{option_map}
use Rattle.zt_history.specs.Tree.{Made, Branch, Tree, head_at, path}
use Rattle.zt_queries.specs.LaterMoments.{leads_to}
use Rattle.zt_look.specs.declared.branch_list.BranchLook.{BranchLook}

-- the first of these branches to whose head the moment leads
abbrev pub first_branch : List Made → List Branch → ℕ → Option ℕ
first_branch made branches m = position (λ b. leads_to made m b.head) branches

-- the moment with the first of these branches to whose head it leads, if it leads to one
abbrev pub met : List Made → List Branch → ℕ → Option (ℕ × ℕ)
met made branches m = option_map (λ j. (j, m)) (first_branch made branches m)

-- the last moment that leads to this head and to that of an earlier branch, with the first such branch
abbrev pub leaving : List Made → List Branch → ℕ → Option (ℕ × ℕ)
leaving made earlier head = last_or None (filter_map (met made earlier) (0 ∷ path made head))

-- the branch of this number
abbrev pub branch_look : Tree → ℕ → BranchLook
branch_look t i = record {
  id = i;
  head = head_at t.branches i;
  leaves = leaving t.made (take i t.branches) (head_at t.branches i);
}

-- all branches in their order
abbrev pub branches_of : Tree → List BranchLook
branches_of t = map (branch_look t) (range_with_len 0 (length t.branches))
