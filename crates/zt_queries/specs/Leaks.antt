-- What is leaked: it still exists, since a message names it or a child keeps it, but no process can reach it
-- any more, and nothing that runs or can be reached needs it. This project's own.
use Rattle.std.specs.Prelude.{ℕ, Bool, not, ◌==◌, ◌&&◌, ◌||◌, if◌then◌else◌, List, Option, None, Some}
use Rattle.std.specs.List.{filter_map, list_any}
use Rattle.zt_bits.specs.declared.kinds.Kind.{Kind}
use Rattle.zt_rows.specs.declared.rows.ObjectRow.{ObjectRow}
use Rattle.zt_rows.specs.State.{State}
use Rattle.zt_rows.specs.Reads.{objects, is_job, is_live_process, has_live_process}
use Rattle.zt_rows.specs.Tests.{among, exists}
use Rattle.zt_rows.specs.Support.{root_job}
use Rattle.zt_rows.specs.End.{chain}
use Rattle.zt_queries.specs.Reachability.{reached}

-- ---- what is kept

-- the jobs above it are kept: it is a live process, or a job that is known to be reached
abbrev pub keeps_above : List ℕ → ℕ × ObjectRow → Bool
keeps_above known (x, o) = is_live_process o || (is_job o.kind && among known x)

-- it is above a live process, or above a job that is known to be reached
unfoldable pub is_above : State → List ℕ → ℕ → Bool
is_above S known x = list_any (λ e. keeps_above known e && among (chain S e.0) x) (objects S)

-- the root job, live processes, and the jobs above
abbrev pub is_kept : State → List ℕ → ℕ → Bool
is_kept S known x = (x == root_job) || has_live_process S x || is_above S known x

-- ---- what is leaked

-- an object that is neither among those known to be reached, nor kept
abbrev pub is_lost : State → List ℕ → ℕ → Bool
is_lost S known x = exists S x && not (among known x || is_kept S known x)

-- the object is leaked
unfoldable pub is_leaked : State → ℕ → Bool
is_leaked S x = let known = reached S in is_lost S known x

abbrev pub lost_at : State → List ℕ → ℕ × ObjectRow → Option (ℕ × Kind)
lost_at S known (x, o) = if is_lost S known x then Some (x, o.kind) else None

-- all leaked objects by rising koid, with their kinds
unfoldable pub leaks : State → List (ℕ × Kind)
leaks S = let known = reached S in filter_map (lost_at S known) (objects S)
