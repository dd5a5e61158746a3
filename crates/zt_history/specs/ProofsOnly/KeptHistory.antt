-- What a history keeps: its store, its moments with their records, its branches, and what can be taken back.
-- Used by proofs only.
use Rattle.std.specs.Prelude.{◌≡◌, ℕ, ◌-◌, ◌<◌, ⊤, List, length, Option, None, Some}
use Rattle.zt_store.specs.StoreView.{Stored}
use Rattle.zt_history.specs.declared.history.Undo.{Undo}
use Rattle.zt_history.specs.declared.history.Undo.TheVariants as undo
use Rattle.zt_history.specs.Tree.{Branch, Tree, last_moment, parent_at, headed}
use Rattle.zt_history.specs.ProofsOnly.Branches.{without_last}
use Rattle.zt_history.specs.Timeline.{Point, Timeline}
use Rattle.zt_history.specs.TreeInvariant.{AreMoments, AreBranches}
use Rattle.zt_history.specs.ProofsOnly.TreeInvariant.{IsHistory}
use Rattle.zt_history.specs.ProofsOnly.MomentNodes.{Chronicle}
use Rattle.zt_history.specs.ProofsOnly.ObjectNotes.{AreNoted, NotedChanges}

-- the tree before the last moment, which a call on this branch made
abbrev pub uncalled : Tree → ℕ → Tree
uncalled t b = record { made = without_last t.made; branches = headed t.branches b (parent_at t.made (last_moment t)) }

-- the tree before the last branch
abbrev pub unbranched : Tree → Tree
unbranched t = record { made = t.made; branches = without_last t.branches }

-- where the history stands again once the last change is taken back
abbrev pub before_of : Undo → Tree → ℕ → Option Point
before_of undo.Nothing t position = None
before_of (undo.Call b) t position = Some (record { tree = uncalled t b; position = parent_at t.made (last_moment t) })
before_of undo.Branch t position = Some (record { tree = unbranched t; position = position })

abbrev pub timeline_of : Tree → ℕ → Undo → Timeline
timeline_of t position last = record { tree = t; position = position; before = before_of last t position }

-- the last change can be taken back: after a call the store stands at the moment that it made, and the other branches
-- do not
abbrev pub IsUndo : Undo → Tree → ℕ → Type 0
IsUndo undo.Nothing t position = ⊤
IsUndo (undo.Call b) t position =
    (0 < last_moment t) × (position ≡ last_moment t) × (b < length t.branches) × AreBranches (last_moment t - 1) (uncalled t b).branches
IsUndo undo.Branch t position = (0 < length t.branches) × AreBranches (last_moment t) (unbranched t).branches

pub record IsKept (store : Stored) (moments : Chronicle) (branches : List Branch) (position : ℕ) (last : Undo) : Type 0 where
  pub moments_stand : AreMoments moments.made
  pub branches_stand : AreBranches (length moments.made) branches
  pub history : IsHistory moments.made position store moments.records
  pub undo : IsUndo last (record { made = moments.made; branches = branches }) position

-- store, moments, branches and undo are as `IsKept` says, and the notes and next koids are those of the moments
pub record IsWhole (store : Stored) (moments : Chronicle) (changes : NotedChanges) (branches : List Branch) (position : ℕ) (last : Undo) : Type 0 where
  pub kept : IsKept store moments branches position last
  pub noted : AreNoted moments.made changes
