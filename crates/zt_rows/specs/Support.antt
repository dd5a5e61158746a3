-- What keeps an object: an object without support goes away. Lifetime by handles as in Fuchsia's reference
-- of handles and kernel objects; that live children keep a live job, and that a live process and the root
-- job keep themselves, is this project's own profile.
use Rattle.std.specs.Prelude.{ℕ, ◌+◌, Bool, true, false, ◌==◌, ◌&&◌, ◌||◌, if◌then◌else◌, List, [], ◌∷◌, ◌++◌, length, Option, None, Some}
use Rattle.std.specs.List.{filter_map, flat_map}
use Rattle.zt_rows.specs.declared.keys.RowKey.{RowKey}
use Rattle.zt_rows.specs.declared.keys.RowKey.TheVariants as key
use Rattle.zt_rows.specs.declared.rows.Held.{Held}
use Rattle.zt_rows.specs.declared.rows.ObjectRow.{ObjectRow}
use Rattle.zt_rows.specs.declared.rows.Row.{Row}
use Rattle.zt_rows.specs.declared.rows.Row.TheVariants as rows
use Rattle.zt_rows.specs.declared.supports.Support.{Support}
use Rattle.zt_rows.specs.declared.supports.Support.TheVariants as support
use Rattle.zt_rows.specs.State.{State}
use Rattle.zt_rows.specs.Reads.{object, is_live_process, is_live_job}

-- the koid of the root job
abbrev pub root_job : ℕ
root_job = 1024

-- ---- the supports that one row gives

-- an entry supports what it names
abbrev pub entry_support : ℕ → RowKey × Row → Option Support
entry_support x (key.Entry p h, rows.Entry held) = if held.koid == x then Some (support.Entry p h) else None
entry_support x _ = None

-- the places from `index` on in a message of which a handle names x
abbrev pub places : ℕ → ℕ → ℕ → ℕ → List Held → List Support
places x e n index [] = []
places x e n index (held ∷ rest) =
    if held.koid == x then support.Message e n index ∷ places x e n (index + 1) rest else places x e n (index + 1) rest

-- a message supports what its handles name, once for each place
abbrev pub message_supports : ℕ → RowKey × Row → List Support
message_supports x (key.Msg e n, rows.Msg m) = places x e n 0 m.handles
message_supports x _ = []

-- a live job or process supports its parent
abbrev pub child_support : ℕ → RowKey × Row → Option Support
child_support x (key.Object y, rows.Object o) =
    if (is_live_job o || is_live_process o) && (o.link == x) then Some (support.Child y) else None
child_support x _ = None

-- ---- the supports of an object

abbrev pub children : Option ObjectRow → ℕ → List (RowKey × Row) → List Support
children (Some o) x es = if is_live_job o then filter_map (child_support x) es else []
children None x es = []

-- a live process keeps itself, and so does the row of the root job, whatever its kind
abbrev pub itself : Option ObjectRow → ℕ → List Support
itself (Some o) x = if is_live_process o || (x == root_job) then support.Itself ∷ [] else []
itself None x = []

-- entries, places in messages, live children, itself: each kind by rising numbers
unfoldable pub supports : State → ℕ → List Support
supports S x =
    filter_map (entry_support x) S.rows ++ flat_map (message_supports x) S.rows ++ children (object S x) x S.rows ++ itself (object S x) x

unfoldable pub support_count : State → ℕ → ℕ
support_count S x = length (supports S x)

unfoldable pub is_supported : State → ℕ → Bool
is_supported S x = if support_count S x == 0 then false else true
