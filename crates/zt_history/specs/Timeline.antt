-- How a history is seen: its tree, the moment at which its store stands, and where it stands again once its last change
-- is taken back. The state of the store is no part of it, since it is that of the moment.
use Rattle.std.specs.Prelude.{◌≡◌, ◌⊎◌, ℕ, suc, ◌≤◌, List, length, Option, None, Some}
use Rattle.zt_rows.specs.declared.calls.Call.{Call}
use Rattle.zt_history.specs.Tree.{Made, Tree, opening_tree, last_moment, path, head_at, grown_at, head_moved, branched}

-- a tree, and one of its moments
pub record Point : Type 0 where
  pub tree : Tree
  pub position : ℕ

-- `before` is there where the last change was a call or a branch that was answered, and nothing was asked since
pub record Timeline : Type 0 where
  pub tree : Tree
  pub position : ℕ
  pub before : Option Point

-- the history at the opening
abbrev pub at_opening : Timeline
at_opening = record { tree = opening_tree; position = 0; before = None }

-- the tree of h, at this moment, with nothing to take back
abbrev pub moved_to : Timeline → ℕ → Timeline
moved_to h m = record { tree = h.tree; position = m; before = None }

-- the tree of h, at the moment where h stands, with nothing to take back
abbrev pub unmoved : Timeline → Timeline
unmoved h = moved_to h h.position

-- where it stands
abbrev pub point_of : Timeline → Point
point_of h = record { tree = h.tree; position = h.position }

-- where it stands again once a call on this branch is taken back
abbrev pub at_head : Timeline → ℕ → Point
at_head h b = record { tree = h.tree; position = head_at h.tree.branches b }

-- the history after a call at this moment: it stands at the new moment, with nothing to take back
abbrev pub after_call_at : Timeline → ℕ → ℕ → Call → Timeline
after_call_at h m process call = record { tree = grown_at h.tree m process call; position = suc (last_moment h.tree); before = None }

-- another head for a branch, with nothing to take back
abbrev pub after_move_head : Timeline → ℕ → ℕ → Timeline
after_move_head h b m = record { tree = head_moved h.tree b m; position = h.position; before = None }

-- the history after a new branch at this moment; taking it back gives the tree and the position of h again
abbrev pub after_branch : Timeline → List ℕ → ℕ → Timeline
after_branch h name m = record { tree = branched h.tree name m; position = h.position; before = Some (point_of h) }

-- the tree stays, there is nothing to take back, and the position stays or is this moment now
abbrev pub IsMovedAtMost : Timeline → Timeline → ℕ → Type 0
IsMovedAtMost old new m = (new ≡ unmoved old) ⊎ (new ≡ moved_to old m)

-- the tree stays, there is nothing to take back, and the position stays or is the head of this branch now
abbrev pub IsAtMost : Timeline → Timeline → ℕ → Type 0
IsAtMost old new b = IsMovedAtMost old new (head_at old.tree.branches b)

-- a list of moments is the path to one of them
pub record IsPath (made : List Made) (way : List ℕ) : Type 0 where
  pub moment : ℕ
  pub there : moment ≤ length made
  pub is : way ≡ path made moment
