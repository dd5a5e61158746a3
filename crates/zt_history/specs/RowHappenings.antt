-- What happens to an object between one moment and the next and shows in its row: that it is made, that it ends, that its
-- peer is closed; and the last moment of a path at which it does. Signals as in Fuchsia's reference of the channel and
-- event pair objects; the three happenings are this project's own.
use Rattle.std.specs.Prelude.{ℕ, Bool, not, ◌&&◌, List, filter, Option, None, is_some}
use Rattle.std.specs.List.{last_or}
use Rattle.zt_rows.specs.declared.keys.RowKey.TheVariants as key
use Rattle.zt_rows.specs.declared.rows.ObjectRow.{ObjectRow}
use Rattle.zt_rows.specs.declared.rows.Row.{Row}
use Rattle.zt_rows.specs.Reads.{as_object, is_live, on_object}
use Rattle.zt_rows.specs.State.{row}
use Rattle.zt_rows.specs.Tests.{is_endpoint, has_all}
use Rattle.zt_history.specs.declared.row_happenings.RowHappening.{RowHappening}
use Rattle.zt_history.specs.declared.row_happenings.RowHappening.TheVariants as happening
use Rattle.zt_history.specs.Tree.{Made, parent_at, path, state_at}

-- an endpoint on which the signal stands that its peer is closed
abbrev pub is_cut_off : ObjectRow → Bool
is_cut_off o = is_endpoint o.kind && has_all o.signals.0 0x4

-- ---- what a row is of

abbrev pub is_there : Option Row → Bool
is_there r = is_some (as_object r)

abbrev pub is_living : Option Row → Bool
is_living r = on_object (λ o. is_live o.life) (as_object r)

abbrev pub is_alone : Option Row → Bool
is_alone r = on_object is_cut_off (as_object r)

-- ---- by the row before and the row after

abbrev pub shows : RowHappening → Option Row → Option Row → Bool
shows happening.Made r s = not (is_there r) && is_there s
shows happening.Ended r s = is_living r && not (is_living s)
shows happening.PeerClosed r s = not (is_alone r) && is_alone s

-- it happened to the object by a moment's call
abbrev pub shows_at : RowHappening → ℕ → List Made → ℕ → Bool
shows_at what x made m = shows what (row (state_at made (parent_at made m)) (key.Object x)) (row (state_at made m) (key.Object x))

-- the last moment on the path to m at which it happened to the object
unfoldable pub last_shown : RowHappening → ℕ → List Made → ℕ → Option ℕ
last_shown what x made m = last_or None (filter (shows_at what x made) (path made m))
