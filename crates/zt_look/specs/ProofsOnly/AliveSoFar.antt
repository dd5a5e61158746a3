-- What the store and the notes of a history tell of an object, and of all below a number.
use Rattle.std.specs.Prelude.{ℕ, nat_le, if◌then◌else◌, List, Option, None, Some}
use Rattle.std.specs.Option.{option_and_then}
use Rattle.zt_bits.specs.declared.kinds.Kind.{Kind}
use Rattle.zt_rows.specs.declared.rows.ObjectRow.{ObjectRow}
use Rattle.zt_rows.specs.Reads.{is_live, object}
use Rattle.zt_rows.specs.State.{State}
use Rattle.zt_rows.specs.Support.{support_count}
use Rattle.zt_history.specs.RowHappenings.{last_shown}
use Rattle.zt_history.specs.declared.row_happenings.RowHappening.TheVariants as shown
use Rattle.zt_history.specs.Tree.{Made, state_at}
use Rattle.zt_look.specs.declared.alive_list.AliveObject.{AliveObject}

abbrev pub kind_of_living : ObjectRow → Option Kind
kind_of_living o = if is_live o.life then Some o.kind else None

abbrev pub living_kind : State → ℕ → Option Kind
living_kind S x = option_and_then kind_of_living (object S x)

-- what is told of an object of this kind that was made at this moment
abbrev pub made_behind : State → ℕ → ℕ → Kind → ℕ → Option AliveObject
made_behind S since x k m = if nat_le m since then None else Some (record { koid = x; kind = k; holders = support_count S x; made = m })

abbrev pub alive_shown : List Made → ℕ → ℕ → ℕ → Option AliveObject
alive_shown made at since x =
    option_and_then (λ k. option_and_then (made_behind (state_at made at) since x k) (last_shown shown.Made x made at)) (living_kind (state_at made at) x)
