-- The handles that named an object, as a tree: each stands below the one that it came from, a copy one deeper. This project's own.
use Rattle.std.specs.Prelude.{ℕ, ◌+◌, ◌-◌, Bool, true, false, if◌then◌else◌, min, List, [], ◌∷◌, ◌++◌, Option, None, Some, Result, Ok}
use Rattle.zt_rows.specs.declared.refusals.Refusal.{Refusal}
use Rattle.zt_history.specs.HistoryRefusals.{◌>>=◌}
use Rattle.zt_history.specs.Tree.{Tree}
use Rattle.zt_lineage.specs.declared.origins.Origin.{Origin}
use Rattle.zt_lineage.specs.declared.origins.Origin.TheVariants as origins
use Rattle.zt_lineage.specs.declared.places.Place.{Place}
use Rattle.zt_lineage.specs.Places.{is_same}
use Rattle.zt_look.specs.declared.object_handles.ObjectHandle.{ObjectHandle}
use Rattle.zt_look.specs.declared.handle_tree.Level.{Level}
use Rattle.zt_look.specs.declared.handle_tree.LineageStep.{LineageStep}
use Rattle.zt_look.specs.declared.object_handles.Leaving.{Leaving}
use Rattle.zt_look.specs.declared.object_handles.Leaving.TheVariants as leaving
use Rattle.zt_look.specs.ObjectHandles.{handles_on}

abbrev pub is_heir : Option Place → Place → Bool
is_heir (Some other) at = is_same other at
is_heir None at = false

-- the handle came from this place; or from no other place, where none is given
abbrev pub came_from : Option Place → Origin → Bool
came_from (Some at) (origins.From other) = is_same other at
came_from (Some at) _ = false
came_from None (origins.From other) = false
came_from None _ = true

-- the place to which a handle moved, if it did
abbrev pub heir_of : Option (ℕ × Leaving) → Option Place
heir_of (Some (moment, leaving.Moved other)) = Some other
heir_of _ = None

-- what came from a handle at this depth: copies stand one deeper, and it goes on at its own depth where it moved. No depth is
-- beyond the limit.
abbrev pub level_below : ℕ → ObjectHandle → Level
level_below depth handle = record { copies = min (depth + 1) 4294967295; heir = heir_of handle.left }

abbrev pub depth_in : Level → Place → ℕ
depth_in level at = if is_heir level.heir at then level.copies - 1 else level.copies

-- each of the handles that came from the place, at this level, and behind each those that came from it
abbrev pub below : List ObjectHandle → Level → Option Place → List LineageStep
below [] level from = []
below (handle ∷ later) level from =
    if came_from from handle.origin
    then record { depth = depth_in level handle.place; handle = handle }
    ∷ below later (level_below (depth_in level handle.place) handle) (Some handle.place) ++ below later level from
    else below later level from

-- those that came from no other place stand at the front
abbrev pub top : Level
top = record { copies = 0; heir = None }

abbrev pub tree_of : List ObjectHandle → List LineageStep
tree_of list = below list top None

-- the tree of an object's handles on the path to a moment
abbrev pub lineage_on : Tree → ℕ → ℕ → Result (List LineageStep) Refusal
lineage_on t at x = do
  list ← handles_on t at x
  Ok (tree_of list)
