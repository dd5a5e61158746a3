-- Names of an object that go while the object stays, an entry's or a message's, and the last moment of a path at which one
-- does. This project's own.
use Rattle.std.specs.Prelude.{ℕ, Bool, List, filter, Option, None}
use Rattle.std.specs.List.{last_or}
use Rattle.zt_rows.specs.Reads.{names}
use Rattle.zt_rows.specs.State.{State}
use Rattle.zt_history.specs.Losses.{loses, loses_at}
use Rattle.zt_history.specs.Tree.{Made, path}

-- a row that named the object does not any more
abbrev pub releases : ℕ → State → State → Bool
releases x S T = loses names x S T

-- by the call that made the moment a row that named the object ceased to name it, and the object stayed
abbrev pub releases_at : ℕ → List Made → ℕ → Bool
releases_at x made m = loses_at names x made m

-- the last moment on the path to m by whose call the object lost a name and stayed
unfoldable pub last_released : ℕ → List Made → ℕ → Option ℕ
last_released x made m = last_or None (filter (releases_at x made) (path made m))
