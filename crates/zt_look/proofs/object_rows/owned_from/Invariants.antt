-- So far the list has the rows before the key of this number.
use Rattle.std.proofs.Common.{◌≡◌, Some}
use Rattle.zt_look.specs.ProofsOnly.RowWalk.{key_of, is_owned, rows_before}
use Rattle.zt_look.proofs.object_rows.owned_from.Given as goal

abbrev pub invariant-loop-number : goal.invariant-loop-number
invariant-loop-number l = l.list.items ≡ rows_before (is_owned l.owned l.koid) (Some (key_of l.owned l.koid l.number)) l.store.state.rows
