-- Where the walk over a tree of handles goes on: from each handle to the first that came from it, and to the next that came
-- from where it came from.
use Rattle.std.specs.Prelude.{ℕ, suc, ◌+◌, ◌*◌, length, if◌then◌else◌, List, [], ◌∷◌, ◌++◌, drop, slice_get, Option, None, Some}
use Rattle.std.specs.BTreeMap.{get}
use Rattle.zt_lineage.specs.declared.origins.Origin.{Origin}
use Rattle.zt_lineage.specs.declared.origins.Origin.TheVariants as origins
use Rattle.zt_lineage.specs.declared.places.Place.{Place}
use Rattle.zt_lineage.specs.Places.{place_cmp}
use Rattle.zt_look.specs.declared.object_handles.ObjectHandle.{ObjectHandle}
use Rattle.zt_look.specs.declared.handle_tree.LineageStep.{LineageStep}
use Rattle.zt_look.specs.declared.handle_tree.Firsts.{Firsts}
use Rattle.zt_look.specs.declared.handle_tree.Level.{Level}
use Rattle.zt_look.specs.declared.handle_tree.TreeLink.{TreeLink}
use Rattle.zt_look.specs.declared.handle_tree.Pending.{Pending}
use Rattle.zt_look.specs.HandleTree.{below, came_from, depth_in, level_below}

-- the place from which a handle came, if it came from another
abbrev pub source : Origin → Option Place
source (origins.From other) = Some other
source _ = None

-- the number of the first of the handles that came from there; the first of them has the number n
abbrev pub first_from : Option Place → ℕ → List ObjectHandle → Option ℕ
first_from from n [] = None
first_from from n (handle ∷ later) = if came_from from handle.origin then Some n else first_from from (suc n) later

abbrev pub first_in : Firsts → Option Place → Option ℕ
first_in firsts None = firsts.root
first_in firsts (Some at) = get place_cmp firsts.below at

-- the links of a handle, the first handle behind which has the number n
abbrev pub link_at : ℕ → List ObjectHandle → ObjectHandle → TreeLink
link_at n later handle = record { child = first_from (Some handle.place) n later; next = first_from (source handle.origin) n later }

abbrev pub links_from : ℕ → List ObjectHandle → List TreeLink
links_from n [] = []
links_from n (handle ∷ later) = link_at (suc n) later handle ∷ links_from (suc n) later

-- the steps of a handle, of those below it, and of the later ones that came from where it came from
abbrev pub steps_of : List ObjectHandle → ℕ → Level → Option ObjectHandle → List LineageStep
steps_of list n level (Some handle) =
    record { depth = depth_in level handle.place; handle = handle }
    ∷ below (drop (suc n) list) (level_below (depth_in level handle.place) handle) (Some handle.place) ++ below (drop (suc n) list) level (source handle.origin)
steps_of list n level None = []

abbrev pub steps_at : List ObjectHandle → Pending → List LineageStep
steps_at list p = steps_of list p.index p.level (slice_get list p.index)

-- those of what is left to visit, the last one first
abbrev pub steps_left : List ObjectHandle → List Pending → List LineageStep
steps_left list [] = []
steps_left list (p ∷ ps) = steps_left list ps ++ steps_at list p

-- how long what is left takes: two turns for each step, and one for each that is to be visited
abbrev pub visits : List ObjectHandle → List Pending → ℕ
visits list left = 2 * length (steps_left list left) + length left

-- what is to be visited of a handle that was found
abbrev pub pending : Option ℕ → Level → List Pending
pending (Some n) level = record { index = n; level = level } ∷ []
pending None level = []
