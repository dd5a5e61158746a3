-- Live children of an object that end or go while the object stays, and the last moment of a path at which one does. A live
-- child is a process or a job that has not ended and whose parent is the object. This project's own.
use Rattle.std.specs.Prelude.{ℕ, ◌==◌, Bool, false, ◌&&◌, ◌||◌, List, filter, Option, None, Some}
use Rattle.std.specs.List.{last_or}
use Rattle.zt_rows.specs.declared.rows.Row.{Row}
use Rattle.zt_rows.specs.declared.rows.Row.TheVariants as rows
use Rattle.zt_rows.specs.Reads.{is_live_job, is_live_process}
use Rattle.zt_rows.specs.State.{State}
use Rattle.zt_history.specs.Losses.{loses, loses_at}
use Rattle.zt_history.specs.Tree.{Made, path}

-- the row is that of a live process or job whose parent is x
abbrev pub is_child_row : ℕ → Option Row → Bool
is_child_row x (Some (rows.Object o)) = (is_live_job o || is_live_process o) && (o.link == x)
is_child_row x _ = false

-- a row that was a live child's of the object is none any more
abbrev pub loses_child : ℕ → State → State → Bool
loses_child x S T = loses is_child_row x S T

-- by the call that made the moment a live child of the object ceased to be one, and the object stayed
abbrev pub loses_child_at : ℕ → List Made → ℕ → Bool
loses_child_at x made m = loses_at is_child_row x made m

-- the last moment on the path to m by whose call the object lost a live child and stayed
unfoldable pub last_lost_child : ℕ → List Made → ℕ → Option ℕ
last_lost_child x made m = last_or None (filter (loses_child_at x made) (path made m))
