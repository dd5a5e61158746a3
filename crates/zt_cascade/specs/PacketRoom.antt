-- Room for the packets that waits become: the numbers that firing raises stay within their types.
use Rattle.std.specs.Prelude.{◌≡◌, ℕ, ◌^◌, ◌<◌, true, Some}
use Rattle.zt_rows.specs.declared.rows.Wait.{Wait}
use Rattle.zt_rows.specs.State.{State}
use Rattle.zt_rows.specs.Reads.{wait}
use Rattle.zt_rows.specs.Settle.{is_met, refresh, settle}
use Rattle.zt_rows.specs.Tests.{next_at}

-- every wait that is met in T, after S, is for a port whose next number in U, after the firing, fits in 64 bits
abbrev pub FiresWithin : State → State → State → Type 0
FiresWithin S T U = (n : ℕ) (w : Wait) → wait T n ≡ Some w → is_met S T w ≡ true → next_at U w.port < 2 ^ 64

-- after settling, the next number of the port of each wait that is met once the derived signals are renewed fits in 64 bits
abbrev pub HasRoomToFire : State → State → Type 0
HasRoomToFire S T = FiresWithin S (refresh T) (settle S T)
